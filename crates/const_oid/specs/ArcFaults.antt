-- The errors of a list of arcs that isn't an object identifier. The error is that of the shortest
-- prefix that has one.
use Rattle.std.specs.Prelude.{◌≡◌, ℕ, ◌<◌, ◌≤◌, List, [], ◌∷◌, ◌++◌, length}
use Rattle.const_oid.specs.declared.error.Error.{Error}
use Rattle.const_oid.specs.declared.error.Error.TheVariants as errors
use Rattle.const_oid.specs.IdentifierOctets.{identifier_octets}

-- The first arc is at most 2, and the second at most 39, as far as these arcs are there.
abbrev pub ArePlaced : List ℕ → Type 0
ArePlaced [] = Unit {0}
ArePlaced (a ∷ []) = a ≤ 2
ArePlaced (a ∷ b ∷ arcs) = (a ≤ 2) × (b ≤ 39)

-- A prefix without an error: its arcs are in range, and their encoding is within the capacity.
pub record IsFaultless (capacity : ℕ) (front : List ℕ) : Type 0 where
  pub placed : ArePlaced front
  pub fits : length (identifier_octets front) ≤ capacity

-- The error of one more arc after a prefix without an error. The range of the arc is checked before
-- the length of the encoding.
pub data IsNextFault (capacity : ℕ) (front : List ℕ) (a : ℕ) : Error → Type 0 where
  first_large : front ≡ [] → 2 < a → IsNextFault capacity front a (errors.ArcInvalid a)
  second_large : (first : ℕ) → front ≡ first ∷ [] → 39 < a
      → IsNextFault capacity front a (errors.ArcInvalid a)
  past_capacity : ArePlaced (front ++ (a ∷ []))
      → capacity < length (identifier_octets (front ++ (a ∷ [])))
      → IsNextFault capacity front a errors.Length

-- The error of the list: that of the first arc that has one, or `Empty` if there are fewer than two
-- arcs and none has an error.
pub data IsArcsFault (capacity : ℕ) (arcs : List ℕ) : Error → Type 0 where
  at_arc : (front : List ℕ) (a : ℕ) (rest : List ℕ) (e : Error) → arcs ≡ front ++ (a ∷ rest)
      → IsFaultless capacity front
      → IsNextFault capacity front a e → IsArcsFault capacity arcs e
  too_few : IsFaultless capacity arcs → length arcs < 2 → IsArcsFault capacity arcs errors.Empty

-- All arcs before the last one are without an error.
abbrev pub EndsAtFault : (capacity : ℕ) → List ℕ → Type 0
EndsAtFault capacity arcs = (front : List ℕ) (last : ℕ) → arcs ≡ front ++ (last ∷ [])
    → IsFaultless capacity front
