-- Laws about cutting a text at the first separator.
use Rattle.std.proofs.Common.{◌≡◌, ℕ, ◌+◌, ◌<◌, false, List, [], ◌∷◌, length, take, drop, Err, refl, arith, subst}
use Rattle.std.specs.Prelude.{◌==◌}
use Rattle.std.proofs.lemmas.Bool.{false_from_ne_true}
use Rattle.std.proofs.lemmas.List.Elements.{All-from_get_or}
use Rattle.std.proofs.lemmas.List.Splits.{length-slice_split, slice_split_first, slice_split_none}
use Rattle.std.proofs.lemmas.List.Sums.{position_or_len_is}
use Rattle.memchr.specs.Find.{NoneBefore, Nowhere, Passes, is_byte}
use Rattle.cert_desk_answers.specs.AnswerLines.{parts, words_say}
use Rattle.cert_desk_answers.specs.declared.line_fault.LineFault.TheVariants as faults

module _ (separator : ℕ) (text : List ℕ) where
  -- A text without separators is one part.
  pub one_part : Nowhere (Passes (is_byte separator) text) 0 (length text) → parts separator text ≡ text ∷ []
  one_part none =
      slice_split_none (λ octet. octet == separator) text
      (All-from_get_or (λ octet. (octet == separator) ≡ false) text 0 (λ i below. false_from_ne_true _ (none i (omega arith) below)))

  -- The first part ends at the first separator.
  pub first_part : (at : ℕ) → NoneBefore (Passes (is_byte separator) text) 0 (length text) at → Passes (is_byte separator) text at
      → parts separator text ≡ take at text ∷ parts separator (drop (at + 1) text)
  first_part at first is =
      let within = first.high in
      let place = position_or_len_is (λ octet. octet == separator) text at 0 (omega arith) (λ i below. false_from_ne_true _ (first.before i (omega arith) below)) (λ _. is) in
      subst (λ (n : ℕ). parts separator text ≡ take n text ∷ parts separator (drop (n + 1) text)) place
      (slice_split_first (λ octet. octet == separator) text 0 (omega (arith, place)))

too_many : (p a k m s b : List ℕ) (more : List (List ℕ)) → 0 < length more → words_say (p ∷ a ∷ k ∷ m ∷ s ∷ b ∷ more) ≡ Err faults.NotSixWords
too_many p a k m s b [] some = absurd (omega arith)
too_many p a k m s b (word ∷ more) some = refl

-- A line isn't an answer if there is a separator after the sixth word.
pub more_than_six : (p a k m s b text : List ℕ) → words_say (p ∷ a ∷ k ∷ m ∷ s ∷ b ∷ parts 32 text) ≡ Err faults.NotSixWords
more_than_six p a k m s b text =
    too_many p a k m s b (parts 32 text) (omega (arith, length-slice_split (λ octet. octet == 32) text))
