-- A generator of given words.
use Rattle.std.specs.Prelude.{ℕ, ◌*◌, List, [], ◌∷◌}

-- The next word is the next byte four times, or 0 if none is left.
abbrev pub next_given : List ℕ → ℕ × List ℕ
next_given [] = (0, [])
next_given (o ∷ w) = (o * 0x01010101, w)
