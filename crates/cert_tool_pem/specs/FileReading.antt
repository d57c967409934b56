-- The states while a file is read.
use Rattle.std.specs.Prelude.{◌≡◌, ℕ, ◌^◌, ◌-◌, [], ◌∷◌, Option, Some, None, false}
use Rattle.cert_desk_io.specs.Devices.{Device, MetEnd, Moved, Sound}
use Rattle.cert_desk_io.specs.Whole.{IsWhole}
use Rattle.cert_tool_pem.specs.declared.files.Begun.{Begun}
use Rattle.cert_tool_pem.specs.declared.files.Begun.TheVariants as begun
use Rattle.cert_tool_pem.specs.DecodedFiles.{is_der, most_text}

-- The first byte was read, or the file is empty.
abbrev pub IsFirst : Device → Option ℕ → Type 0
IsFirst d None = Moved d [] × MetEnd d × Sound d
IsFirst d (Some first) = Moved d (first ∷ []) × Sound d

-- The maximum number of bytes after the first one.
abbrev pub most_after_first : ℕ
most_after_first = 2 ^ 26 - 1

-- The beginning of a file: it is empty, its first byte is that of DER, or it was read to its end.
abbrev pub IsBegun : Device → Begun → Type 0
IsBegun d begun.Empty = Moved d [] × MetEnd d × Sound d
IsBegun d begun.Der = Moved d (48 ∷ []) × Sound d
IsBegun d (begun.Text text) = IsWhole d most_text text.items × (is_der text.items ≡ false)
