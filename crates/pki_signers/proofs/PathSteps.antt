-- Lemmas about steps of a search, and about steps from one index to the next.
use Rattle.std.proofs.Common.{◌≡◌, ℕ, zero, suc, ◌+◌, ◌-◌, ◌<◌, ◌≤◌, Bool, true, false, cond, List, [], ◌∷◌, ◌++◌, length, get_or, drop, reverse, Option, Some, None, slice_get, sym, ap, ◌∙◌, arith, append_assoc, append-nil}
use Rattle.std.specs.List.{position_from}
use Rattle.std.specs.Option.{option_map_or}
use Rattle.std.proofs.lemmas.List.{at_drop_more, at_drop_all, reverse-append, reverse-reverse}
use Rattle.std.proofs.lemmas.Option.{get_or_from_slice_get, slice_get_within}
use Rattle.pki_signers.specs.Followed.{followed}

-- A search for the first value that passes a test.
module _ {A : Type 0} (p : A → Bool) (xs : List A) (i : ℕ) (x : A) (at : slice_get xs i ≡ Some x) where
  next_is : position_from p i (drop i xs) ≡ position_from p i (x ∷ drop (i + 1) xs)
  next_is =
      at_drop_more (position_from p i) xs i x (slice_get_within xs i x at)
      ∙ ap (λ y. position_from p i (y ∷ drop (i + 1) xs)) (get_or_from_slice_get xs i x x at)

  -- The value at the index passes.
  pub found_here : p x ≡ true → position_from p i (drop i xs) ≡ Some i
  found_here passes = next_is ∙ ap (λ b. cond b (Some i) (position_from p (i + 1) (drop (i + 1) xs))) passes

  -- The value at the index doesn't pass.
  pub found_later : p x ≡ false → position_from p (i + 1) (drop (i + 1) xs) ≡ position_from p i (drop i xs)
  found_later fails = sym (next_is ∙ ap (λ b. cond b (Some i) (position_from p (i + 1) (drop (i + 1) xs))) fails)

-- No value passes.
pub found_none : {A : Type 0} (p : A → Bool) (xs : List A) (i : ℕ) → length xs ≤ i → position_from p i (drop i xs) ≡ None
found_none p xs i h = at_drop_all (position_from p i) xs i h

-- One more index.
module _ (next : ℕ → Option ℕ) where
  one_more : (most place : ℕ) → 0 < most → followed next most place ≡ place ∷ option_map_or (λ other. followed next (most - 1) other) (next place) []
  one_more zero place some = absurd (omega arith)
  one_more (suc most) place some =
      let e : suc most - 1 ≡ most = omega arith in
      ap (λ n. place ∷ option_map_or (λ other. followed next n other) (next place) []) (sym e)

  module _ (whole path : List ℕ) (most turn place : ℕ) (so : whole ≡ path ++ followed next (most - turn) place) where
    -- The indices so far, and those from the next one on.
    pub goes_on : (other : ℕ) → turn < most → next place ≡ Some other → whole ≡ (path ++ place ∷ []) ++ followed next (most - (turn + 1)) other
    goes_on other more some =
        let n : most - turn - 1 ≡ most - (turn + 1) = omega arith in
        let step : followed next (most - turn) place ≡ place ∷ followed next (most - (turn + 1)) other =
        one_more (most - turn) place (omega arith)
        ∙ ap (λ o. place ∷ option_map_or (λ k. followed next (most - turn - 1) k) o []) some
        ∙ ap (λ k. place ∷ followed next k other) n in
        so ∙ ap (λ x. path ++ x) step ∙ sym (append_assoc path (place ∷ []) (followed next (most - (turn + 1)) other))

    -- No index comes next.
    pub ends_here : turn < most → next place ≡ None → path ++ place ∷ [] ≡ whole
    ends_here more none =
        sym (so ∙ ap (λ x. path ++ x) (one_more (most - turn) place (omega arith) ∙ ap (λ o. place ∷ option_map_or (λ k. followed next (most - turn - 1) k) o []) none))

    -- There are as many indices as there may be.
    pub is_full : most ≤ turn → path ≡ whole
    is_full full =
        let n : most - turn ≡ 0 = omega arith in
        sym (so ∙ ap (λ k. path ++ followed next k place) n ∙ append-nil path)

-- The path, from its end to its beginning, ends with the index from which it was made.
pub last_is : (next : ℕ → Option ℕ) (most place : ℕ) → 0 < most → (front : List ℕ) × (reverse (followed next most place) ≡ front ++ place ∷ [])
last_is next zero place some = absurd (omega arith)
last_is next (suc most) place some =
    let above = option_map_or (λ other. followed next most other) (next place) [] in
    (reverse above, reverse-append (place ∷ []) above)

-- Neighbours in a path: the second index comes next after the first.
module _ (next : ℕ → Option ℕ) where
  next_is_first : (o : Option ℕ) (most b : ℕ) (rest : List ℕ) → option_map_or (λ other. followed next most other) o [] ≡ b ∷ rest → o ≡ Some b
  next_is_first None most b rest e = absurd cc
  next_is_first (Some other) zero b rest e = absurd cc
  next_is_first (Some other) (suc most) b rest e = ap (λ l. Some (get_or l 0 0)) e

  neighbours : (most : ℕ) (o : Option ℕ) (front rest : List ℕ) (a b : ℕ) → option_map_or (λ other. followed next most other) o [] ≡ front ++ a ∷ b ∷ rest → next a ≡ Some b
  neighbours zero None [] rest a b e = absurd cc
  neighbours zero None (x ∷ front) rest a b e = absurd cc
  neighbours zero (Some other) [] rest a b e = absurd cc
  neighbours zero (Some other) (x ∷ front) rest a b e = absurd cc
  neighbours (suc most) None [] rest a b e = absurd cc
  neighbours (suc most) None (x ∷ front) rest a b e = absurd cc
  neighbours (suc most) (Some other) [] rest a b e =
      let here : other ≡ a = ap (λ l. get_or l 0 0) e in
      ap next (sym here) ∙ next_is_first (next other) most b rest (ap (drop 1) e)
  neighbours (suc most) (Some other) (x ∷ front) rest a b e = neighbours most (next other) front rest a b (ap (drop 1) e)

  -- In the reversed list, the next of each item comes before it.
  pub comes_next : (most place : ℕ) (path front rest : List ℕ) (above below : ℕ) → path ≡ reverse (followed next most place) → path ≡ front ++ above ∷ below ∷ rest → next below ≡ Some above
  comes_next most place path front rest above below made e =
      let turned : reverse (above ∷ below ∷ rest) ≡ reverse rest ++ below ∷ above ∷ [] = reverse-append (above ∷ below ∷ []) rest in
      let whole : followed next most place ≡ reverse rest ++ below ∷ above ∷ reverse front =
      sym (reverse-reverse (followed next most place)) ∙ ap reverse (sym made ∙ e) ∙ reverse-append front (above ∷ below ∷ rest)
      ∙ ap (λ l. l ++ reverse front) turned ∙ append_assoc (reverse rest) (below ∷ above ∷ []) (reverse front) in
      neighbours most (Some place) (reverse rest) (reverse front) below above whole
