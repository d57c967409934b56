-- How much of a file is read that should be one value in DER.
use Rattle.std.specs.Prelude.{◌≡◌, ℕ, ◌+◌, ◌*◌, ◌≤◌, ◌⊎◌, List, length, get_or, Bool, true, false}
use Rattle.std.specs.Prelude.{nat_lt, ◌==◌, if◌then◌else◌}
use Rattle.cert_tool_explain.specs.DeskIo.Devices.{Device, Moved, Sound}
use Rattle.cert_tool_explain.specs.DeskIo.Whole.{IsWhole, most_octets}

-- The byte at this offset.
abbrev pub at : List ℕ → ℕ → ℕ
at octets offset = get_or octets offset 0

-- The size of a value with its header, whose length is one byte, or 1 to 4 bytes after the byte
-- `81` to `84` (X.690 8.1.3). DER of a file has no other lengths, so only the header is counted.
abbrev pub value_size : List ℕ → ℕ
value_size octets =
    if nat_lt (at octets 1) 128 then 2 + at octets 1
    else if at octets 1 == 129 then 3 + at octets 2
    else if at octets 1 == 130 then 4 + (at octets 2 * 256 + at octets 3)
    else if at octets 1 == 131 then
    5 + (at octets 2 * 65536 + (at octets 3 * 256 + at octets 4))
    else if at octets 1 == 132 then
    6 + (at octets 2 * 16777216 + (at octets 3 * 65536 + (at octets 4 * 256 + at octets 5)))
    else 2

-- The number of bytes after a value of which an explanation makes use.
abbrev pub most_surplus : ℕ
most_surplus = 65536

-- More bytes than these follow the first value.
abbrev pub has_surplus : List ℕ → Bool
has_surplus octets =
    if nat_lt most_surplus (length octets)
    then nat_lt (value_size octets + most_surplus) (length octets) else false

-- The most bytes that one read returns.
abbrev pub read_size : ℕ
read_size = 2048

-- Reading stopped soon after the first value: at most 66 KiB follow it.
unfoldable pub IsBounded : List ℕ → Type 0
IsBounded octets = length octets ≤ value_size octets + (most_surplus + read_size)

-- These bytes were read from a file that should be one value: all of its bytes, or its first bytes,
-- in which a value is followed by too many others. No more were read than that takes.
abbrev pub IsValueRead : Device → List ℕ → Type 0
IsValueRead d octets =
    (IsWhole d most_octets octets
    ⊎ ((has_surplus octets ≡ true) × Moved d octets × (length octets ≤ most_octets) × Sound d))
    × IsBounded octets

-- These bytes were read from a file that should be one value, or from any other file.
abbrev pub IsReadIf : Bool → Device → List ℕ → Type 0
IsReadIf true d octets = IsValueRead d octets
IsReadIf false d octets = IsWhole d most_octets octets
