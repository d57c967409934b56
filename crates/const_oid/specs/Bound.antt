-- The limits of this crate: the bound of arcs, and the greatest length of an encoding.
use Rattle.std.specs.Prelude.{ℕ, ◌^◌}

-- Each arc is below this bound, 2^128, because an `Arc` is a `u128`.
unfoldable pub Bound : ℕ
Bound = 2 ^ 128

-- The greatest length of an encoding, `ObjectIdentifier::MAX_SIZE`.
abbrev pub max_size : ℕ
max_size = 39
