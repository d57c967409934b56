-- The sizes of the pieces that an input or an output in memory moves.
use Rattle.std.specs.Prelude.{ℕ, ◌-◌, List, [], ◌∷◌, Option, IsTrue, min, nat_lt}
use Rattle.std.specs.List.{list_all}
use Rattle.std.specs.Option.{option_map}

-- Each piece has at least one byte.
abbrev pub ArePieceSizes : List ℕ → Type 0
ArePieceSizes sizes = IsTrue (list_all (λ size. nat_lt 0 size) sizes)

-- The number of the failing call, counted anew after one call.
abbrev pub after_call : Option ℕ → Option ℕ
after_call failing = option_map (λ call. call - 1) failing

-- The number of bytes that the next piece moves, of at most this many: up to its size, or all if no
-- size is left.
abbrev pub next_piece : List ℕ → ℕ → ℕ
next_piece [] most = most
next_piece (size ∷ sizes) most = min size most
