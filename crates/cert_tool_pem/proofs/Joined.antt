-- Concatenated values.
use Rattle.std.proofs.Common.{◌≡◌, ℕ, ◌+◌, ◌<◌, List, [], ◌∷◌, ◌++◌, length, map, reverse, take, drop, get_or, refl, ap, sym, ◌∙◌, append_assoc, append-nil}
use Rattle.std.specs.Global.{Vec}
use Rattle.std.specs.List.{concat}
use Rattle.std.proofs.lemmas.List.{drop_more, map-append, reverse-append, take_more}

concat_append : (xs ys : List (List ℕ)) → concat (xs ++ ys) ≡ concat xs ++ concat ys
concat_append [] ys = refl
concat_append (x ∷ xs) ys = ap (λ (r : List ℕ). x ++ r) (concat_append xs ys) ∙ sym (append_assoc x (concat xs) (concat ys))

abbrev pub items : List (Vec ℕ) → List (List ℕ)
items values = map (λ value. value.items) values

-- One more value at the end.
pub one_more : (values : List (Vec ℕ)) (i : ℕ) (d : Vec ℕ) → i < length values → concat (items (take (i + 1) values)) ≡ concat (items (take i values)) ++ (get_or values i d).items
one_more values i d some =
    ap (λ xs. concat (items xs)) (take_more values i d some) ∙ ap concat (map-append (λ (value : Vec ℕ). value.items) (take i values) (get_or values i d ∷ []))
    ∙ concat_append (items (take i values)) ((get_or values i d).items ∷ []) ∙ ap (λ (r : List ℕ). concat (items (take i values)) ++ r) (append-nil (get_or values i d).items)

-- One more value at the beginning.
pub one_before : (values : List (Vec ℕ)) (i : ℕ) (d : Vec ℕ) → i < length values → concat (reverse (items (drop i values))) ≡ concat (reverse (items (drop (i + 1) values))) ++ (get_or values i d).items
one_before values i d some =
    ap (λ xs. concat (reverse (items xs))) (drop_more values i d some)
    ∙ ap concat (reverse-append ((get_or values i d).items ∷ []) (items (drop (i + 1) values)))
    ∙ concat_append (reverse (items (drop (i + 1) values))) ((get_or values i d).items ∷ [])
    ∙ ap (λ (r : List ℕ). concat (reverse (items (drop (i + 1) values))) ++ r) (append-nil (get_or values i d).items)
