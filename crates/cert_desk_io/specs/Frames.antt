-- Frames: the length of the content in four bytes, the most significant first, and then the
-- content.
use Rattle.std.specs.Prelude.{◌≡◌, ◌≢◌, ℕ, ◌<◌, ◌≤◌, ◌^◌, ◌⊎◌, List, [], ◌++◌, length, Option}
use Rattle.std.specs.Prelude.{Some, None}
use Rattle.std.specs.Int.{to_be_bytes, w32}
use Rattle.cert_desk_io.specs.Devices.{Device, Fails, MetEnd, Moved, Sound}
use Rattle.cert_desk_io.specs.declared.frame_error.FrameError.{FrameError}
use Rattle.cert_desk_io.specs.declared.frame_error.FrameError.TheVariants as errors

-- A number below 2^32 in four bytes, the most significant first.
abbrev pub number_octets : ℕ → List ℕ
number_octets count = to_be_bytes w32 count

-- The frame of a content of fewer than 2^32 bytes.
abbrev pub frame : List ℕ → List ℕ
frame content = number_octets (length content) ++ content

-- That many bytes were read, or fewer, and then the end was met. No read failed.
abbrev pub IsTaken : Device → ℕ → List ℕ → Type 0
IsTaken d count octets = Moved d octets × Sound d
    × ((length octets ≡ count) ⊎ ((length octets < count) × MetEnd d))

-- Why the bytes couldn't be read: a read failed, or memory ran out.
abbrev pub IsStopped : Device → FrameError → Type 0
IsStopped d errors.Device = (octets : List ℕ) × Fails d octets
IsStopped d errors.OutOfMemory = (octets : List ℕ) × Moved d octets × Sound d
IsStopped d errors.TooLong = ⊥
IsStopped d errors.Cut = ⊥

-- A frame with a content of at most `most` bytes was read, or none because the input ended where it
-- would begin. No read failed.
abbrev pub IsNext : Device → ℕ → Option (List ℕ) → Type 0
IsNext d most None = Moved d [] × MetEnd d × Sound d
IsNext d most (Some content) = Moved d (frame content) × (length content ≤ most) × Sound d

-- Bytes that end within a frame, whose content would have at most `most` bytes.
abbrev pub IsCut : ℕ → List ℕ → Type 0
IsCut most octets = (octets ≢ []) × ((length octets < 4) ⊎ ((count : ℕ) × (part : List ℕ)
    × (count ≤ most) × (octets ≡ number_octets count ++ part) × (length part < count)))

-- The reason why no frame was read: its length is above the limit, and only the length was read;
-- the input ended within it; a read failed; or memory ran out. A read failed only if the reason is
-- `Device`.
abbrev pub IsUnread : Device → ℕ → FrameError → Type 0
IsUnread d most errors.TooLong = (count : ℕ) × (most < count) × (count < 2 ^ 32)
    × Moved d (number_octets count) × Sound d
IsUnread d most errors.Cut = (octets : List ℕ) × IsCut most octets × Moved d octets × MetEnd d
    × Sound d
IsUnread d most errors.Device = (octets : List ℕ) × Fails d octets
IsUnread d most errors.OutOfMemory = (octets : List ℕ) × Moved d octets × Sound d
