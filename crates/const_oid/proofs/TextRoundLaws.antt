-- Lemmas: parsing the dotted text of arcs gives the same result as collecting the arcs.
use Rattle.std.proofs.Common.{◌≡◌, ℕ, zero, suc, ◌+◌, ◌*◌, ◌/◌, ◌%◌, ◌<◌, ◌≤◌, ◌⊎◌, inl, inr, List, [], ◌∷◌, ◌++◌, length, Result, Ok, Err, None, Some, refl, ap, ◌∙◌, append_assoc, arith}
use Rattle.std.specs.List.{AllByRecursion}
use Rattle.std.proofs.lemmas.Bool.{cases_lt}
use Rattle.std.proofs.lemmas.List.{length-map}
use Rattle.const_oid.specs.declared.error.Error.{Error}
use Rattle.const_oid.specs.IdentifierOctets.{IsIdentifier}
use Rattle.const_oid.specs.ArcLists.{add_arc, and_then, gather}
use Rattle.const_oid.specs.TextReading.{and_value, text_arcs}
use Rattle.const_oid.specs.DottedText.{decimal}
use Rattle.const_oid.specs.Digits.{digits}
use Rattle.const_oid.proofs.DigitLaws.{digits-Digits}
use Rattle.const_oid.proofs.DottedLaws.{decimal-one, decimal-more}
use Rattle.const_oid.proofs.TextLaws.{digit_read, text-digit}

one_read : (bound capacity n : ℕ) (arcs w : List ℕ) → n < 10 → n < bound → text_arcs bound capacity arcs None (decimal n ++ w) ≡ text_arcs bound capacity arcs (Some n) w
one_read bound capacity n arcs w l fits =
    let z : 0 * 10 + n ≡ n = omega arith in
    ap (λ t. text_arcs bound capacity arcs None (t ++ w)) (decimal-one n l)
    ∙ text-digit bound capacity arcs None (48 + n) w (λ h. omega (arith, h))
    ∙ ap (λ r. and_value r (λ next. text_arcs bound capacity arcs (Some next) w)) (digit_read bound None n l (omega arith))
    ∙ ap (λ k. text_arcs bound capacity arcs (Some k) w) z

pub decimal_within : (bound capacity room n : ℕ) (arcs w : List ℕ) → n ≤ room → n < bound → text_arcs bound capacity arcs None (decimal n ++ w) ≡ text_arcs bound capacity arcs (Some n) w
decimal_within bound capacity zero n arcs w small fits = one_read bound capacity n arcs w (omega arith) fits
decimal_within bound capacity (suc room) n arcs w small fits = by (cases_lt n 10) (λ v. decimal_within bound capacity room (n / 10) arcs v)
  where
    by : (n < 10) ⊎ (10 ≤ n) → ((v : List ℕ) → n / 10 ≤ room → n / 10 < bound → text_arcs bound capacity arcs None (decimal (n / 10) ++ v) ≡ text_arcs bound capacity arcs (Some (n / 10)) v)
        → text_arcs bound capacity arcs None (decimal n ++ w) ≡ text_arcs bound capacity arcs (Some n) w
    by (inl l) ih = one_read bound capacity n arcs w l fits
    by (inr l) ih =
        let z : n / 10 * 10 + n % 10 ≡ n = omega arith in
        ap (λ t. text_arcs bound capacity arcs None (t ++ w)) (decimal-more n l)
        ∙ ap (text_arcs bound capacity arcs None) (append_assoc (decimal (n / 10)) ((48 + n % 10) ∷ []) w)
        ∙ ih ((48 + n % 10) ∷ w) (omega arith) (omega arith)
        ∙ text-digit bound capacity arcs (Some (n / 10)) (48 + n % 10) w (λ h. omega (arith, h))
        ∙ ap (λ r. and_value r (λ next. text_arcs bound capacity arcs (Some next) w)) (digit_read bound (Some (n / 10)) (n % 10) (omega arith) (omega arith))
        ∙ ap (λ k. text_arcs bound capacity arcs (Some k) w) z

pub length-decimal-pos : (n : ℕ) → 0 < length (decimal n)
unfolding decimal
length-decimal-pos n = omega (arith, length-map (digits 10 n) (λ d. 48 + d), (digits-Digits 10 n (omega arith)).some)

pub gather-cons : (capacity : ℕ) (arcs : List ℕ) (a : ℕ) (rest : List ℕ) → gather capacity arcs (a ∷ rest) ≡ and_then (add_arc capacity arcs a) (λ more. gather capacity more rest)
unfolding gather
gather-cons capacity arcs a rest = refl

pub alike : (r : Result (List ℕ) Error) (f g : List ℕ → Result (List ℕ) Error) → ((more : List ℕ) → f more ≡ g more) → and_then r f ≡ and_then r g
alike (Ok arcs) f g h = h arcs
alike (Err e) f g h = refl

pub all_below : (bound : ℕ) (arcs : List ℕ) → 40 ≤ bound → IsIdentifier bound arcs → AllByRecursion (λ n. n < bound) arcs
unfolding IsIdentifier
all_below bound (a ∷ b ∷ arcs) large id = (omega (arith, id.0), (omega (arith, id.1), id.2))
all_below bound _ large id = absurd id
