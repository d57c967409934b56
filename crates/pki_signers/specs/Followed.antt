-- Indices that follow one another.
use Rattle.std.specs.Prelude.{ℕ, zero, suc, List, [], ◌∷◌, Option}
use Rattle.std.specs.Option.{option_map_or}

-- An index, the one that comes next, and so on: at most this many.
abbrev pub followed : (ℕ → Option ℕ) → ℕ → ℕ → List ℕ
followed next zero place = []
followed next (suc most) place =
    place ∷ option_map_or (λ other. followed next most other) (next place) []
