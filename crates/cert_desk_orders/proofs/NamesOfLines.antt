-- The DNS names of an order, line by line.
use Rattle.std.proofs.Common.{◌≡◌, ℕ, ◌+◌, ◌<◌, List, [], ◌∷◌, ◌++◌, append-nil, length, map, take, get_or, Option, Some, None, ap, ap₂, sym, ◌∙◌}
use Rattle.std.proofs.lemmas.List.{map-append}
use Rattle.std.proofs.lemmas.List.Elements.{filter_map-append}
use Rattle.std.specs.List.{cons_option}
use Rattle.cert_desk_orders.specs.declared.line.Line.{Line}
use Rattle.cert_desk_orders.specs.OrderReading.{line_plain, lines_plain}
use Rattle.cert_desk_orders.specs.OrdersFile.{value_if, values_of}
use Rattle.cert_desk_orders.proofs.LineLists.{map-take_here}

module _ (word : List ℕ) (lines : List Line) (index : ℕ) (d : Line) (some : index < length lines) (before : List (List ℕ))
    (is : values_of word (lines_plain (take index lines)) ≡ before) where
  values_of-here : (here : Option (List ℕ)) → here ≡ value_if word (line_plain (get_or lines index d))
      → values_of word (lines_plain (take (index + 1) lines)) ≡ before ++ cons_option here []
  values_of-here here e =
      ap (values_of word) (map-take_here line_plain lines index d some)
      ∙ filter_map-append (value_if word) (lines_plain (take index lines)) (line_plain (get_or lines index d) ∷ [])
      ∙ ap₂ (λ xs o. xs ++ cons_option o []) is (sym e)

  -- A line with another word.
  pub values_of-other : None ≡ value_if word (line_plain (get_or lines index d)) → values_of word (lines_plain (take (index + 1) lines)) ≡ before
  values_of-other e = values_of-here None e ∙ append-nil before

  -- A line with this word.
  pub values_of-more : (value : List ℕ) → Some value ≡ value_if word (line_plain (get_or lines index d))
      → values_of word (lines_plain (take (index + 1) lines)) ≡ before ++ value ∷ []
  values_of-more value e = values_of-here (Some value) e

-- A list of values with one more.
pub map-pushed : {X : Type 0} (f : X → List ℕ) (xs more : List X) (x : X) (value : List ℕ) → value ≡ f x → more ≡ xs ++ x ∷ [] → map f xs ++ value ∷ [] ≡ map f more
map-pushed f xs more x value v e = ap (λ y. map f xs ++ y ∷ []) v ∙ sym (map-append f xs (x ∷ [])) ∙ ap (map f) (sym e)
