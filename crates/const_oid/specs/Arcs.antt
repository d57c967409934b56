-- The arcs that the encoding of an object identifier contains (X.690 8.19).
use Rattle.std.specs.Prelude.{◌≡◌, ℕ, ◌+◌, ◌*◌, ◌/◌, ◌%◌, ◌≤◌, true, false, ltb, List, [], ◌∷◌}
use Rattle.std.specs.Prelude.{length}
use Rattle.const_oid.specs.IdentifierOctets.{identifier_octets, IsIdentifier}

-- The arcs after the first two. `value` is the value of the bytes of an unfinished arc.
unfoldable pub later_arcs : (value : ℕ) → List ℕ → List ℕ
later_arcs value [] = []
later_arcs value (o ∷ w) =
    elim (ltb o 128) [
      | true ↦ (value * 128 + o % 128) ∷ later_arcs 0 w
      | false ↦ later_arcs (value * 128 + o % 128) w
    ]

-- The arcs of an encoding: the first byte has two, and each later one has bytes of its own.
unfoldable pub arcs_of : List ℕ → List ℕ
arcs_of [] = []
arcs_of (r ∷ w) = r / 40 ∷ r % 40 ∷ later_arcs 0 w

-- The bytes are the encoding of an identifier, and there are at most as many as the capacity.
pub record SpellsIdentifier (bound capacity : ℕ) (octets : List ℕ) : Type 0 where
  pub identifier : IsIdentifier bound (arcs_of octets)
  pub spelled : octets ≡ identifier_octets (arcs_of octets)
  pub fits : length octets ≤ capacity
