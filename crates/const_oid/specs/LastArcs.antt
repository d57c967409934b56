-- The number of arcs of an object identifier, and the position of its last arc in the encoding.
use Rattle.std.specs.Prelude.{◌≡◌, ℕ, ◌+◌, ◌-◌, true, false, ltb, List, [], ◌∷◌, length, take}
use Rattle.const_oid.specs.IdentifierOctets.{identifier_octets}

-- The position of the last arc in the encoding, or 0 if there are only two arcs.
unfoldable pub place_of_last : List ℕ → ℕ
place_of_last arcs = length (identifier_octets (take (length arcs - 1) arcs))

-- `count` is the number of arcs, and `start` is the position of the last one.
pub record KnowsLast (arcs : List ℕ) (count start : ℕ) : Type 0 where
  pub counted : count ≡ length arcs
  pub placed : start ≡ place_of_last arcs

-- The position of the last arc, found in one pass over the bytes that are left. `last` is the
-- position of the last finished arc, `begun` that of the arc after it, and `here` that of the next
-- byte.
unfoldable pub last_from : (last begun here : ℕ) → List ℕ → ℕ
last_from last begun here [] = last
last_from last begun here (o ∷ w) =
    elim (ltb o 128) [
      | true ↦ last_from begun (here + 1) (here + 1) w
      | false ↦ last_from last begun (here + 1) w
    ]
