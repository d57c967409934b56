-- Laws about tests on the result of a fold, and about tests on numbers.
use Rattle.std.proofs.Common.{◌≡◌, ℕ, ◌≤◌, List, [], ◌∷◌, Bool, true, false, not, ◌&&◌, ◌||◌, min, inl, inr, refl, sym, ap, ◌∙◌, arith}
use Rattle.std.specs.Prelude.{nat_le}
use Rattle.std.specs.List.{fold, list_all, list_any}
use Rattle.std.proofs.lemmas.Bool.{le-leb, lt-leb}
use Rattle.std.proofs.lemmas.Bool.Decides.{leb_tells}

pub or_no : (b : Bool) → b ≡ (b || false)
or_no true = refl
or_no false = refl

pub or_yes : (b : Bool) → true ≡ (b || true)
or_yes true = refl
or_yes false = refl

pub and_no : (b : Bool) → false ≡ (b && false)
and_no true = refl
and_no false = refl

pub and_yes : (b : Bool) → b ≡ (b && true)
and_yes true = refl
and_yes false = refl

pub not_twice : (b : Bool) → b ≡ not (not b)
not_twice true = refl
not_twice false = refl

or_in_turn : (a b c : Bool) → ((a || b) || c) ≡ (a || (b || c))
or_in_turn true b c = refl
or_in_turn false b c = refl

and_in_turn : (a b c : Bool) → ((a && b) && c) ≡ (a && (b && c))
and_in_turn true b c = refl
and_in_turn false b c = refl

-- The result of steps that each add with "or", and with "and".
pub fold_or : {S A : Type 0} (told : S → Bool) (test : A → Bool) (step : S → A → S) → ((s : S) (x : A) → told (step s x) ≡ (told s || test x))
    → (s : S) (xs : List A) → told (fold step s xs) ≡ (told s || list_any test xs)
fold_or told test step adds s [] = or_no (told s)
fold_or told test step adds s (x ∷ xs) =
    fold_or told test step adds (step s x) xs ∙ ap (λ b. b || list_any test xs) (adds s x) ∙ or_in_turn (told s) (test x) (list_any test xs)

pub fold_and : {S A : Type 0} (told : S → Bool) (test : A → Bool) (step : S → A → S) → ((s : S) (x : A) → told (step s x) ≡ (told s && test x))
    → (s : S) (xs : List A) → told (fold step s xs) ≡ (told s && list_all test xs)
fold_and told test step adds s [] = and_yes (told s)
fold_and told test step adds s (x ∷ xs) =
    fold_and told test step adds (step s x) xs ∙ ap (λ b. b && list_all test xs) (adds s x) ∙ and_in_turn (told s) (test x) (list_all test xs)

-- Two tests on numbers that are equivalent.
pub le_same : (a b c d : ℕ) → (a ≤ b → c ≤ d) → (c ≤ d → a ≤ b) → nat_le a b ≡ nat_le c d
le_same a b c d on back =
    elim (leb_tells a b) [
      | inl below ↦ below.0 ∙ sym (le-leb c d (on below.1))
      | inr above ↦ elim (leb_tells c d) [
        | inl other ↦ absurd (omega (arith, above.1, back other.1))
        | inr apart ↦ above.0 ∙ sym apart.0
      ]
    ]

pub le_min : (n a b : ℕ) → nat_le n (min a b) ≡ (nat_le n a && nat_le n b)
le_min n a b =
    elim (leb_tells n a) [
      | inl below ↦ le_same n (min a b) n b (λ h. omega (arith, h)) (λ h. omega (arith, h, below.1)) ∙ ap (λ c. c && nat_le n b) (sym below.0)
      | inr above ↦ lt-leb n (min a b) (omega (arith, above.1)) ∙ ap (λ c. c && nat_le n b) (sym above.0)
    ]
