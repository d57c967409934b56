-- Laws about lists of lines, and about searches in them.
use Rattle.std.proofs.Common.{◌≡◌, ℕ, suc, ◌+◌, ◌<◌, arith, Bool, true, false, ◌||◌, cond, not, List, [], ◌∷◌, ◌++◌, length, map, take, drop, get_or, drop-cons, Some, refl, ap, ◌∙◌}
use Rattle.std.proofs.lemmas.List.{map-append, take_more}
use Rattle.std.specs.List.{find, list_any, position_or_len}
use Rattle.std.specs.Option.{option_map}

module _ {X Y : Type 0} (f : X → Y) (p : Y → Bool) where
  pub list_any-map : (xs : List X) → list_any (λ x. p (f x)) xs ≡ list_any p (map f xs)
  list_any-map [] = refl
  list_any-map (x ∷ xs) = ap (λ b. p (f x) || b) (list_any-map xs)

  pub position_or_len-map : (xs : List X) → position_or_len (λ x. p (f x)) xs ≡ position_or_len p (map f xs)
  position_or_len-map [] = refl
  position_or_len-map (x ∷ xs) = ap (λ n. cond (not (p (f x))) (1 + n) 0) (position_or_len-map xs)

  found-map : (x : X) (xs : List X) (b : Bool) → option_map f (find (λ y. p (f y)) xs) ≡ find p (map f xs)
      → option_map f (cond b (Some x) (find (λ y. p (f y)) xs)) ≡ cond b (Some (f x)) (find p (map f xs))
  found-map x xs true e = refl
  found-map x xs false e = e

  pub find-map : (xs : List X) → option_map f (find (λ x. p (f x)) xs) ≡ find p (map f xs)
  find-map [] = refl
  find-map (x ∷ xs) = found-map x xs (p (f x)) (find-map xs)

module _ {X Y : Type 0} (f : X → Y) (xs : List X) (i : ℕ) (d : X) (some : i < length xs) where
  -- The remaining elements begin with the current one.
  pub map-drop_here : map f (drop i xs) ≡ f (get_or xs i d) ∷ map f (drop (i + 1) xs)
  map-drop_here =
      let next : suc i ≡ i + 1 = omega arith in
      ap (map f) (drop-cons xs i d some ∙ ap (λ n. get_or xs i d ∷ drop n xs) next)

  -- The elements so far, with the current one added.
  pub map-take_here : map f (take (i + 1) xs) ≡ map f (take i xs) ++ f (get_or xs i d) ∷ []
  map-take_here = ap (map f) (take_more xs i d some) ∙ map-append f (take i xs) (get_or xs i d ∷ [])
