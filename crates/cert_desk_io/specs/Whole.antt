-- Reading a whole input.
use Rattle.std.specs.Prelude.{◌≡◌, ℕ, ◌+◌, ◌-◌, ◌^◌, ◌≤◌, List, length, codes}
use Rattle.cert_desk_io.specs.declared.read_all_error.ReadAllError.{ReadAllError}
use Rattle.cert_desk_io.specs.declared.read_all_error.ReadAllError.TheVariants as errors
use Rattle.cert_desk_io.specs.Devices.{Device, Moved, MetEnd, Sound, Fails}

-- The message of each error.
abbrev pub read_all_text : ReadAllError → List ℕ
read_all_text errors.TooMuch = codes "too many octets"
read_all_text errors.Device = codes "a device failed"
read_all_text errors.OutOfMemory = codes "out of memory"

-- The size limit of a file in bytes.
abbrev pub most_octets : ℕ
most_octets = 2 ^ 32 - 1

-- These are all bytes of an input, within the limit. No read failed.
abbrev pub IsWhole : Device → ℕ → List ℕ → Type 0
IsWhole d most octets = Moved d octets × (length octets ≤ most) × MetEnd d × Sound d

-- The reason why an input wasn't read to its end: it has more bytes than the limit, and one more
-- was read; a read failed; or memory ran out. A read failed only if the reason is `Device`.
abbrev pub IsUnread : Device → ℕ → ReadAllError → Type 0
IsUnread d most errors.TooMuch = (octets : List ℕ) × Moved d octets × (length octets ≡ most + 1)
    × Sound d
IsUnread d most errors.Device = (octets : List ℕ) × (length octets ≤ most) × Fails d octets
IsUnread d most errors.OutOfMemory = (octets : List ℕ) × Moved d octets × (length octets ≤ most + 1)
    × Sound d
