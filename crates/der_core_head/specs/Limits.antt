-- The limits of lengths and of nesting.
use Rattle.std.specs.Prelude.{ℕ, suc, ◌<◌}

-- The greatest length, 2^32 - 1.
abbrev pub length_max : ℕ
length_max = 4294967295

-- A length that isn't above the greatest one.
abbrev pub IsLength : ℕ → Type 0
IsLength n = n < suc length_max

-- The greatest number of nested levels.
abbrev pub levels_max : ℕ
levels_max = 64
