-- Lemmas about one more byte of a dotted text.
use Rattle.std.proofs.Common.{◌≡◌, ◌≢◌, ℕ, ◌+◌, ◌-◌, ◌*◌, ◌<◌, ◌≤◌, ◌⊎◌, inl, inr, List, [], ◌∷◌, length, Ok, Err, Option, None, Some, unwrap_or, ok_or, ltb, cond, refl, ap, ◌∙◌, ne_eqb, arith}
use Rattle.std.proofs.lemmas.Bool.Decides.{nat_tests}
use Rattle.std.proofs.lemmas.Bool.{cases_lt}
use Rattle.const_oid.specs.declared.error.Error.TheVariants as errors
use Rattle.const_oid.specs.ArcLists.{add_arc, whole_arcs, and_then}
use Rattle.const_oid.specs.TextReading.{with_digit, early_dot, and_value, text_arcs}

pub text-digit : (bound capacity : ℕ) (arcs : List ℕ) (value : Option ℕ) (c : ℕ) (w : List ℕ) → c ≢ 46
    → text_arcs bound capacity arcs value (c ∷ w) ≡ and_value (with_digit bound value c) (λ next. text_arcs bound capacity arcs (Some next) w)
unfolding text_arcs
text-digit bound capacity arcs None c w ne = rw (ne_eqb c 46 ne, text_arcs) refl
text-digit bound capacity arcs (Some a) c w ne = rw (ne_eqb c 46 ne, text_arcs) refl

pub text-early : (bound capacity : ℕ) (arcs : List ℕ) (value : Option ℕ) (c : ℕ) (w : List ℕ) → c ≡ 46 → value ≡ None
    → text_arcs bound capacity arcs value (c ∷ w) ≡ Err (early_dot arcs)
unfolding text_arcs
text-early bound capacity arcs value c w e n = grind (arith, nat_tests)

pub text-trailing : (bound capacity : ℕ) (arcs : List ℕ) (value : Option ℕ) (a c : ℕ) (w : List ℕ) → c ≡ 46 → value ≡ Some a → length w ≡ 0
    → text_arcs bound capacity arcs value (c ∷ w) ≡ Err errors.TrailingDot
unfolding text_arcs
text-trailing bound capacity arcs value a c [] e n z = grind (arith, nat_tests)
text-trailing bound capacity arcs value a c (x ∷ w) e n z = absurd (omega arith)

pub text-dot : (bound capacity : ℕ) (arcs : List ℕ) (value : Option ℕ) (a c : ℕ) (w : List ℕ) → c ≡ 46 → value ≡ Some a → 0 < length w
    → text_arcs bound capacity arcs value (c ∷ w) ≡ and_then (add_arc capacity arcs a) (λ more. text_arcs bound capacity more None w)
unfolding text_arcs
text-dot bound capacity arcs value a c [] e n z = absurd (omega arith)
text-dot bound capacity arcs value a c (x ∷ w) e n z = grind (arith, nat_tests)

pub text-none : (bound capacity : ℕ) (arcs : List ℕ) (value : Option ℕ) → value ≡ None → text_arcs bound capacity arcs value [] ≡ Err errors.Empty
unfolding text_arcs
text-none bound capacity arcs None n = refl
text-none bound capacity arcs (Some a) n = cc

pub text-last : (bound capacity : ℕ) (arcs : List ℕ) (value : Option ℕ) (a : ℕ) → value ≡ Some a → text_arcs bound capacity arcs value [] ≡ and_then (add_arc capacity arcs a) whole_arcs
unfolding text_arcs
text-last bound capacity arcs None a n = cc
text-last bound capacity arcs (Some b) a n =
    let same : b ≡ a = cc in
    ap (λ k. and_then (add_arc capacity arcs k) whole_arcs) same

-- A byte where a digit is required

pub digit_read : (bound : ℕ) (value : Option ℕ) (d : ℕ) → d < 10 → unwrap_or value 0 * 10 + d < bound → with_digit bound value (48 + d) ≡ Ok (unwrap_or value 0 * 10 + d)
digit_read bound value d l fits = grind (arith, nat_tests)

pub data Digit (bound : ℕ) (begun : Option ℕ) (c : ℕ) : Type 0 where
  no : ¬ ((48 ≤ c) × (c ≤ 57)) → with_digit bound begun c ≡ Err (errors.DigitExpected c) → Digit bound begun c
  past : (d : ℕ) → c ≡ 48 + d → d ≤ 9 → bound ≤ unwrap_or begun 0 * 10 + d → with_digit bound begun c ≡ Err errors.ArcTooBig → Digit bound begun c
  within : (d : ℕ) → c ≡ 48 + d → d ≤ 9 → unwrap_or begun 0 * 10 + d < bound → with_digit bound begun c ≡ Ok (unwrap_or begun 0 * 10 + d) → Digit bound begun c

pub no_digit_read : (bound : ℕ) (begun : Option ℕ) (c : ℕ) → ¬ ((48 ≤ c) × (c ≤ 57)) → with_digit bound begun c ≡ Err (errors.DigitExpected c)
no_digit_read bound begun c n = grind (arith, nat_tests)

pub past_read : (bound : ℕ) (begun : Option ℕ) (d : ℕ) → d ≤ 9 → bound ≤ unwrap_or begun 0 * 10 + d → with_digit bound begun (48 + d) ≡ Err errors.ArcTooBig
past_read bound begun d l large = grind (arith, nat_tests)

-- Pushing a digit gives the value that parsing computes.
pub digit_pushed : (bound : ℕ) (begun : Option ℕ) (c v : ℕ) (r : Option ℕ) → 48 ≤ c → c ≤ 57 → v ≡ unwrap_or begun 0
    → r ≡ cond (ltb (v * 10 + (c - 48)) bound) (Some (v * 10 + (c - 48))) None → with_digit bound begun c ≡ ok_or r errors.ArcTooBig
digit_pushed bound begun c v r k l e p = grind (arith, nat_tests)

pub digit : (bound : ℕ) (begun : Option ℕ) (c : ℕ) → Digit bound begun c
digit bound begun c = by (cases_lt c 48) (cases_lt c 58)
  where
    sized : (d : ℕ) → c ≡ 48 + d → d ≤ 9 → (unwrap_or begun 0 * 10 + d < bound) ⊎ (bound ≤ unwrap_or begun 0 * 10 + d) → Digit bound begun c
    sized d e l (inl fits) = within d e l fits (ap (with_digit bound begun) e ∙ digit_read bound begun d (omega arith) fits)
    sized d e l (inr large) = past d e l large (ap (with_digit bound begun) e ∙ past_read bound begun d l large)

    by : (c < 48) ⊎ (48 ≤ c) → (c < 58) ⊎ (58 ≤ c) → Digit bound begun c
    by (inl low) _ = let n : ¬ ((48 ≤ c) × (c ≤ 57)) = λ h. omega (arith, h.0) in no n (no_digit_read bound begun c n)
    by (inr k) (inr high) = let n : ¬ ((48 ≤ c) × (c ≤ 57)) = λ h. omega (arith, h.1) in no n (no_digit_read bound begun c n)
    by (inr k) (inl l) = sized (c - 48) (omega arith) (omega arith) (cases_lt (unwrap_or begun 0 * 10 + (c - 48)) bound)
