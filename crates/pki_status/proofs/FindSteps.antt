-- Lemmas about steps of a search for the first value that passes a test.
use Rattle.std.proofs.Common.{◌≡◌, ℕ, ◌+◌, ◌<◌, ◌≤◌, Bool, true, false, cond, List, length, get_or, drop, Some, None, find, sym, ap, ◌∙◌}
use Rattle.std.proofs.lemmas.List.{at_drop_more, at_drop_all}

module _ {A : Type 0} (p : A → Bool) (xs : List A) (i : ℕ) (d : A) (within : i < length xs) where
  -- The value at the index passes.
  pub found_here : p (get_or xs i d) ≡ true → find p (drop i xs) ≡ Some (get_or xs i d)
  found_here passes = at_drop_more (find p) xs i d within ∙ ap (λ b. cond b (Some (get_or xs i d)) (find p (drop (i + 1) xs))) passes

  -- The value at the index doesn't pass.
  pub found_later : p (get_or xs i d) ≡ false → find p (drop (i + 1) xs) ≡ find p (drop i xs)
  found_later fails = sym (at_drop_more (find p) xs i d within ∙ ap (λ b. cond b (Some (get_or xs i d)) (find p (drop (i + 1) xs))) fails)

-- No value passes.
pub found_none : {A : Type 0} (p : A → Bool) (xs : List A) (i : ℕ) → length xs ≤ i → find p (drop i xs) ≡ None
found_none p xs i h = at_drop_all (find p) xs i h
