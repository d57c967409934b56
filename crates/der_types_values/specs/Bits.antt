-- The bits of bytes (X.690 8.6.2). The first bit is the most significant one of the first byte.
use Rattle.std.specs.Prelude.{ℕ, ◌*◌, ◌-◌, ◌/◌, ◌%◌, ◌^◌, Bool, List, length, map, ◌==◌, get_or}
use Rattle.std.specs.List.{range_with_len}
use Rattle.der_core.specs.BitStrings.{Bits}

-- The bit at an index, counted from 0.
abbrev pub bit_at : List ℕ → ℕ → Bool
bit_at w i = (get_or w (i / 8) 0 / 2 ^ (7 - i % 8)) % 2 == 1

-- The number of bits, without the unused ones.
abbrev pub bit_count : Bits → ℕ
bit_count b = 8 * length b.octets - b.unused

-- The bits, without the unused ones, in order.
abbrev pub bit_list : Bits → List Bool
bit_list b = map (bit_at b.octets) (range_with_len 0 (bit_count b))
