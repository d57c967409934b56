-- Lemmas about the contents of integers that aren't negative: their digits, after a zero if the
-- first bit would be one.
use Rattle.std.proofs.Common.{◌≡◌, ℕ, ◌<◌, ◌≤◌, true, false, List, [], ◌∷◌, length, Ok, Err, refl, sym, ap, ◌∙◌, arith, pos, nat_lt, inl, inr, drop, ◌==◌, ◌&&◌, not}
use Rattle.std.specs.Int.Digits.{number_from_digits}
use Rattle.std.proofs.lemmas.Bool.{not-true, not-false, eqb-true, eqb-false, or_cases, and_parts}
use Rattle.std.proofs.lemmas.Bool.Decides.{nat_tests}
use Rattle.der_core.specs.Oid.Digits.{digits}
use Rattle.der_core.specs.ErrorTypes.ErrorKind.TheVariants as kinds
use Rattle.der_core.specs.TagTypes.Tag.{Tag}
use Rattle.der_core.specs.Integers.{positive, natural, integer_octets, integer_of, integer_read, is_redundant, shortest_integer}
use Rattle.der_core.proofs.Results.{IsBytes, octets_are}
use Rattle.der_core.proofs.IntegerLaws.{integer_octets-of, integer_octets-some, integer_octets-not_redundant, integer_of-octets}
use Rattle.der_types_numbers.specs.Numbers.{is_first_bit_set, has_leading_zero}
use Rattle.der_types_numbers.specs.NumberOrders.{number-content}
use Rattle.der_core.proofs.DigitLaws.{digits-number_from_digits}

positive-set : (w : List ℕ) → is_first_bit_set w ≡ true → positive w ≡ 0 ∷ w
positive-set [] e = absurd cc
positive-set (d ∷ ds) e = rw (not-true (nat_lt d 128) e) refl

positive-clear : (w : List ℕ) → is_first_bit_set w ≡ false → positive w ≡ w
positive-clear [] e = refl
positive-clear (d ∷ ds) e = rw (not-false (nat_lt d 128) e) refl

-- The content of a number, from its digits.
pub content-set : (w : List ℕ) → w ≡ digits 256 (number_from_digits 256 w) → is_first_bit_set w ≡ true → integer_octets (pos (number_from_digits 256 w)) ≡ 0 ∷ w
unfolding integer_octets
content-set w e s = ap positive (sym e) ∙ positive-set w s

pub content-clear : (w : List ℕ) → w ≡ digits 256 (number_from_digits 256 w) → is_first_bit_set w ≡ false → integer_octets (pos (number_from_digits 256 w)) ≡ w
unfolding integer_octets
content-clear w e s = ap positive (sym e) ∙ positive-clear w s

-- The result of decoding bytes.
pub natural_empty : (t : Tag) (w : List ℕ) → w ≡ [] → integer_read natural t w ≡ Err (kinds.Length t)
unfolding shortest_integer
natural_empty t w e = rw e refl

pub natural_redundant : (t : Tag) (w : List ℕ) → 0 < length w → is_redundant w ≡ true → integer_read natural t w ≡ Err (kinds.Noncanonical t)
unfolding shortest_integer
natural_redundant t [] some e = absurd (omega arith)
natural_redundant t (d ∷ ds) some e = rw e refl

pub natural_negative : (t : Tag) (w : List ℕ) → is_redundant w ≡ false → is_first_bit_set w ≡ true → integer_read natural t w ≡ Err (kinds.Value t)
unfolding shortest_integer integer_of
natural_negative t [] e s = absurd cc
natural_negative t (d ∷ ds) e s = rw (e, not-true (nat_lt d 128) s) refl

pub natural_is : (t : Tag) (w : List ℕ) → 0 < length w → is_redundant w ≡ false → is_first_bit_set w ≡ false → integer_read natural t w ≡ Ok (pos (number_from_digits 256 w))
unfolding shortest_integer integer_of
natural_is t [] some e s = absurd (omega arith)
natural_is t (d ∷ ds) some e s = rw (e, not-false (nat_lt d 128) s) refl

integer_of-clear : (w : List ℕ) → 0 < length w → is_first_bit_set w ≡ false → integer_of w ≡ pos (number_from_digits 256 w)
unfolding integer_of
integer_of-clear [] some s = absurd (omega arith)
integer_of-clear (d ∷ ds) some s = rw (not-false (nat_lt d 128) s) refl

pub natural_content : (w : List ℕ) → IsBytes w → 0 < length w → is_redundant w ≡ false → is_first_bit_set w ≡ false → integer_octets (pos (number_from_digits 256 w)) ≡ w
natural_content w h some e s = ap integer_octets (sym (integer_of-clear w some s)) ∙ integer_octets-of w h some e

-- There are no more digits than content bytes.
pub natural_few : (w : List ℕ) → w ≡ digits 256 (number_from_digits 256 w) → length w ≤ length (integer_octets (pos (number_from_digits 256 w)))
natural_few w e = grind (arith, nat_tests, content-set w e, content-clear w e)

pub ruleset natural_contents = (content-set, content-clear)

pub ruleset natural_reads = (natural_empty, natural_redundant, natural_negative, natural_is)

pub ruleset contents = (integer_octets-some, integer_octets-not_redundant, integer_of-octets, number-content)

-- Redundant leading bytes don't change the integer

pub redundant_some : (w : List ℕ) → is_redundant w ≡ true → 1 < length w
redundant_some (a ∷ b ∷ w) e = omega arith
redundant_some w e = absurd cc

pub integer_of-shorter : (w : List ℕ) → is_redundant w ≡ true → integer_of (drop 1 w) ≡ integer_of w
unfolding integer_of
integer_of-shorter (a ∷ b ∷ w) e = elim (or_cases (a == 0 && nat_lt b 128) (a == 255 && not (nat_lt b 128)) e) [
  | inl h ↦
      let p = and_parts (a == 0) (nat_lt b 128) h in
      rw (eqb-true a 0 p.0, p.1) refl
  | inr h ↦
      let p = and_parts (a == 255) (not (nat_lt b 128)) h in
      rw (eqb-true a 255 p.0, not-true (nat_lt b 128) p.1) refl
]
integer_of-shorter w e = absurd cc

pub zero_some : (w : List ℕ) → has_leading_zero w ≡ true → 1 < length w
zero_some (a ∷ b ∷ w) e = omega arith
zero_some w e = absurd cc

pub number-shorter : (w : List ℕ) → has_leading_zero w ≡ true → number_from_digits 256 (drop 1 w) ≡ number_from_digits 256 w
number-shorter (a ∷ b ∷ w) e = rw (eqb-true a 0 e) refl
number-shorter w e = absurd cc

pub digits-fewest : (w : List ℕ) → IsBytes w → 0 < length w → has_leading_zero w ≡ false → digits 256 (number_from_digits 256 w) ≡ w
digits-fewest [] h some e = absurd (omega arith)
digits-fewest (a ∷ []) h some e = digits-number_from_digits 256 (a ∷ []) (omega arith) (octets_are (a ∷ []) h) (inl refl)
digits-fewest (a ∷ b ∷ w) h some e =
    let first : a ≡ 0 → ⊥ = eqb-false a 0 e in
    digits-number_from_digits 256 (a ∷ b ∷ w) (omega arith) (octets_are (a ∷ b ∷ w) h) (inr (omega arith))

pub ruleset shorter = (integer_of-shorter, redundant_some)
