-- Tests of one or of all elements of a list.
use Rattle.std.proofs.Common.{◌≡◌, ℕ, zero, suc, ◌+◌, ◌<◌, List, [], ◌∷◌, Bool, true, false, ◌&&◌, ◌||◌, Some, length, get_or, drop, map, slice_get, refl, sym, ap, ◌∙◌, arith}
use Rattle.std.specs.List.{list_all, list_any}
use Rattle.std.proofs.Math.Bool.{or-true}
use Rattle.std.proofs.lemmas.List.{at_drop_more}
use Rattle.std.proofs.lemmas.Option.{get_or_from_slice_get, slice_get_within}
use Rattle.cert_desk_bundle.specs.Der.Grammar.{plain_list}

-- The values and their abstract values.
pub all_of_list : {A B : Type 0} (plain : A → B) (test : B → Bool) (xs : List A) → list_all (λ x. test (plain x)) xs ≡ list_all test (plain_list plain xs)
all_of_list plain test [] = refl
all_of_list plain test (x ∷ xs) = ap (λ b. test (plain x) && b) (all_of_list plain test xs)

pub as_many : {A B : Type 0} (plain : A → B) (xs : List A) → length xs ≡ length (plain_list plain xs)
as_many plain [] = refl
as_many plain (x ∷ xs) = ap suc (as_many plain xs)

-- The element at an index, and the elements after it.
pub rest_from : {A B : Type 0} (f : List A → B) (xs : List A) (i : ℕ) (x : A) → slice_get xs i ≡ Some x → f (drop i xs) ≡ f (x ∷ drop (i + 1) xs)
rest_from f xs i x is = at_drop_more f xs i x (slice_get_within xs i x is) ∙ ap (λ y. f (y ∷ drop (i + 1) xs)) (get_or_from_slice_get xs i x x is)

any_at_index : {A B : Type 0} (plain : A → B) (test : B → Bool) (xs : List A) (i : ℕ) (x : A) → i < length xs → test (plain (get_or xs i x)) ≡ true → list_any test (map plain xs) ≡ true
any_at_index plain test [] i x within e = absurd (omega arith)
any_at_index plain test (y ∷ xs) zero x within e = ap (λ b. b || list_any test (map plain xs)) e
any_at_index plain test (y ∷ xs) (suc i) x within e = ap (λ b. test (plain y) || b) (any_at_index plain test xs i x (omega arith) e) ∙ or-true (test (plain y))

module _ {A B : Type 0} (plain : A → B) (test : B → Bool) (xs : List A) (i : ℕ) (x : A) (within : i < length xs) (is : x ≡ get_or xs i x) where
  abbrev any_left : List A → Bool
  any_left ys = list_any test (map plain ys)

  pub any_no : test (plain x) ≡ false → any_left (drop (i + 1) xs) ≡ any_left (drop i xs)
  any_no e = sym (at_drop_more any_left xs i x within ∙ ap (λ b. b || any_left (drop (i + 1) xs)) (ap (λ y. test (plain y)) (sym is) ∙ e))

  pub any_in : test (plain x) ≡ true → list_any test (map plain xs) ≡ true
  any_in e = any_at_index plain test xs i x within (ap (λ y. test (plain y)) (sym is) ∙ e)
