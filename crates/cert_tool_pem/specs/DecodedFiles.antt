-- The input of the DER that a file contains, directly or as PEM.
use Rattle.std.specs.Prelude.{◌≡◌, ℕ, ◌⊎◌, ◌^◌, List, [], ◌∷◌, Bool, true, false, ◌==◌, if◌then◌else◌}
use Rattle.std.specs.Prelude.{Some, None, Result, Ok, Err}
use Rattle.cert_desk_io.specs.Devices.{Device, MetEnd, Moved, Sound, Untouched, source}
use Rattle.cert_desk_io.specs.NamedInputs.{Inputs}
use Rattle.cert_desk_io.specs.declared.read_all_error.ReadAllError.TheVariants as reasons
use Rattle.cert_desk_io.specs.Whole.{IsUnread, IsWhole}
use Rattle.cert_tool_pem.specs.declared.file_error.FileError.{FileError}
use Rattle.cert_tool_pem.specs.declared.file_error.FileError.TheVariants as errors
use Rattle.cert_tool_pem.specs.declared.file_input.FileInput.{FileInput}
use Rattle.cert_tool_pem.specs.declared.pem_fault.PemFault.{PemFault}
use Rattle.cert_tool_pem.specs.declared.wanted.Wanted.{Wanted}
use Rattle.cert_tool_pem.specs.declared.wanted.Wanted.TheVariants as kinds
use Rattle.cert_tool_pem.specs.FileInputs.{HasEnded, Takes, failures_of, front_of, rest_of}
use Rattle.cert_tool_pem.specs.Pem.{is_reversed, text_octets}

-- The maximum number of bytes of a text.
abbrev pub most_text : ℕ
most_text = 2 ^ 26

-- The bytes begin as DER does, with the first byte of a SEQUENCE (X.690 8.9).
abbrev pub is_der : List ℕ → Bool
is_der [] = false
is_der (first ∷ rest) = first == 48

-- The DER that the bytes of a file contain, or the number of the first line with an error and the
-- error. Lines and DER are returned as they are; any other file is decoded as a text.
abbrev pub file_octets : Wanted → List ℕ → Result (List ℕ) (ℕ × PemFault)
file_octets kinds.Lines octets = Ok octets
file_octets wanted octets = if is_der octets then Ok octets else text_octets wanted octets

-- The file is returned as it is, and these bytes of it were read already: none if it must contain
-- lines, none if it is empty, or the first byte of DER if the order isn't to be reversed.
abbrev pub IsItself : Wanted → Device → List ℕ → Type 0
IsItself wanted d front =
    ((wanted ≡ kinds.Lines) × (front ≡ []) × Untouched d)
    ⊎ ((front ≡ []) × Moved d [] × MetEnd d × Sound d)
    ⊎ ((front ≡ 48 ∷ []) × Moved d (48 ∷ []) × Sound d × (is_reversed wanted ≡ false))

-- The input returns the DER that the file contains: either the bytes of the file, some of which
-- were read already; or the decoded bytes, after the file was read to its end.
abbrev pub IsDecodedFile : Wanted → (d : Device) → FileInput d.State → Type 0
IsDecodedFile wanted d made =
    (IsItself wanted d (front_of made) × (rest_of made ≡ Some d.new))
    ⊎ ((octets : List ℕ) × IsWhole d most_text octets
    × (file_octets wanted octets ≡ Ok (front_of made)) × (rest_of made ≡ None))

-- The files as inputs of the DER that they contain.
abbrev pub meant : Wanted → Inputs → Inputs
meant wanted i = record {
  State = FileInput i.State;
  moves = Takes i.moves;
  is_ended = HasEnded i.is_ended;
  failures = failures_of i.failures;
  is_opened = λ name made. (old : i.State) × (new : i.State) × i.is_opened name old
      × IsDecodedFile wanted (source i.moves i.is_ended i.failures old new) made;
  is_unopened = i.is_unopened;
}

-- The reason why the file doesn't contain what is needed.
abbrev pub IsFileError : Wanted → Device → FileError → Type 0
IsFileError wanted d errors.TooMuch = IsUnread d most_text reasons.TooMuch
IsFileError wanted d errors.Device = IsUnread d most_text reasons.Device
IsFileError wanted d errors.OutOfMemory = Unit {0}
IsFileError wanted d errors.NotText =
    (is_reversed wanted ≡ true) × Moved d (48 ∷ []) × Sound d
IsFileError wanted d (errors.Refused text number fault) =
    IsWhole d most_text text.items × (file_octets wanted text.items ≡ Err (number, fault))
