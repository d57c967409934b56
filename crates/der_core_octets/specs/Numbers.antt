-- Integers as a sign and a natural number.
use Rattle.std.specs.Prelude.{◌≡◌, ◌≤◌, ◌^◌, ◌-◌, if◌then◌else◌, ℕ, ℤ, pos, negsuc, List, Bool}
use Rattle.std.specs.Prelude.{true, false, Option, Some, None, Result, Ok, Err}
use Rattle.der_core_head.specs.declared.error.Error.{Error}
use Rattle.der_core_head.specs.declared.tag.Tag.{Tag}
use Rattle.der_core_head.specs.Integers.{complement, shortest_integer}

-- The integer `n`, or -(n + 1).
abbrev pub with_sign : Bool → ℕ → ℤ
with_sign false n = pos n
with_sign true n = negsuc n

-- The byte, with each bit inverted or not.
abbrev pub turn : Bool → ℕ → ℕ
turn b d = if b then 255 - d else d

-- The bytes, with each bit inverted or not.
abbrev pub turned : Bool → List ℕ → List ℕ
turned false w = w
turned true w = complement w

-- The number, or `None` if it doesn't fit 128 bits.
abbrev pub IsMagnitude : ℕ → Option ℕ → Type 0
IsMagnitude n (Some m) = m ≡ n
IsMagnitude n None = 2 ^ 128 ≤ n

-- The function returned the integer of the content, whatever its size, or its error.
abbrev pub IsWholeNumber : Tag → List ℕ → Result (Bool × Option ℕ) Error → Type 0
IsWholeNumber t w (Ok x) = (n : ℕ) × (shortest_integer t w ≡ Ok (with_sign x.0 n))
    × IsMagnitude n x.1
IsWholeNumber t w (Err e) = shortest_integer t w ≡ Err e.kind
