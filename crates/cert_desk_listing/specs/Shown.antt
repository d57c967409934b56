-- The result of writing a listing, and of a run of `show`.
use Rattle.std.specs.Prelude.{◌≡◌, ℕ, ◌⊎◌, List, codes, string_bytes}
use Rattle.cert_desk_io.specs.declared.exit_status.ExitStatus.{ExitStatus}
use Rattle.cert_desk_io.specs.declared.exit_status.ExitStatus.TheVariants as statuses
use Rattle.cert_desk_io.specs.declared.read_all_error.ReadAllError.TheVariants as reasons
use Rattle.cert_desk_io.specs.Devices.{Device, Untouched, IsCut}
use Rattle.cert_desk_io.specs.Telling.{IsAnswer, IsComplaint, IsDeviceTold, IsMemoryTold}
use Rattle.cert_desk_io.specs.Whole.{IsWhole, IsUnread, most_octets}
use Rattle.x509_cert_lists.specs.Oid.Bound.{Bound}
use Rattle.x509_cert_lists.specs.Der.Shapes.{Spells}
use Rattle.x509_cert_certificates.specs.Certificates.{PlainCertificate, raw_certificate}
use Rattle.x509_cert_lists.specs.ListGrammar.{cert_req}
use Rattle.cert_desk_listing.specs.declared.finding.Finding.{Finding}
use Rattle.cert_desk_listing.specs.declared.finding.Finding.TheVariants as findings
use Rattle.cert_desk_listing.specs.declared.file_kind.FileKind.{FileKind}
use Rattle.cert_desk_listing.specs.declared.file_kind.FileKind.TheVariants as kinds
use Rattle.cert_desk_listing.specs.declared.show_error.ShowError.{ShowError}
use Rattle.cert_desk_listing.specs.declared.show_error.ShowError.TheVariants as errors
use Rattle.cert_desk_listing.specs.Listing.{certificate_lines, list_lines, request_lines}
use Rattle.cert_desk_listing.specs.Parts.{PlainList, PlainRequest, raw_certificate_list}

-- The message of each error.
abbrev pub show_error_text : ShowError → List ℕ
show_error_text errors.Device = codes "a device failed"
show_error_text errors.OutOfMemory = codes "out of memory"

-- The reason why a text can't be written: a write failed, after a proper prefix of the text, or
-- memory ran out, and nothing was written.
abbrev pub IsUnshown : Device → List ℕ → ShowError → Type 0
IsUnshown out text errors.Device = IsCut out text
IsUnshown out text errors.OutOfMemory = Untouched out

-- The bytes encode a value of this kind with the profile `Raw`, and this is its listing.
abbrev pub IsListing : FileKind → List ℕ → List ℕ → Type 0
IsListing kinds.Certificate octets text = (c : PlainCertificate)
    × Spells (raw_certificate Bound) c octets × (text ≡ certificate_lines c)
IsListing kinds.List octets text = (l : PlainList) × Spells (raw_certificate_list Bound) l octets
    × (text ≡ list_lines l)
IsListing kinds.Request octets text = (r : PlainRequest) × Spells (cert_req Bound) r octets
    × (text ≡ request_lines r)

-- The bytes encode no value of a kind.
abbrev pub HasNoListing : FileKind → List ℕ → Type 0
HasNoListing kind octets = (text : List ℕ) → IsListing kind octets text → ⊥

-- The line that reports bytes that encode no value of the kind.
abbrev pub malformed_line : List ℕ
malformed_line = codes "malformed\n"

-- The result for bytes of a kind.
abbrev pub IsRead : FileKind → List ℕ → Finding → Type 0
IsRead kind octets (findings.Listed lines) = IsListing kind octets (string_bytes lines.text)
IsRead kind octets findings.Malformed = HasNoListing kind octets
IsRead kind octets findings.Device = ⊥
IsRead kind octets findings.OutOfMemory = Unit {0}

-- The result for an input: the listing of the value that it encodes; that it encodes none, or has
-- too many bytes; or the reason why it can't be read or listed.
abbrev pub IsFinding : Device → FileKind → Finding → Type 0
IsFinding input kind (findings.Listed lines) = (octets : List ℕ) × IsWhole input most_octets octets
    × IsListing kind octets (string_bytes lines.text)
IsFinding input kind findings.Malformed =
    ((octets : List ℕ) × IsWhole input most_octets octets × HasNoListing kind octets)
    ⊎ IsUnread input most_octets reasons.TooMuch
IsFinding input kind findings.Device = IsUnread input most_octets reasons.Device
IsFinding input kind findings.OutOfMemory = ((octets : List ℕ) × IsWhole input most_octets octets)
    ⊎ IsUnread input most_octets reasons.OutOfMemory

-- The report of the result, and the exit status.
abbrev pub IsTold : Device → Device → Finding → ExitStatus → Type 0
IsTold out err (findings.Listed lines) answer =
    IsAnswer out err (string_bytes lines.text) statuses.Done answer
IsTold out err findings.Malformed answer = Untouched out
    × IsComplaint err malformed_line statuses.Faulty answer
IsTold out err findings.Device answer = Untouched out × IsDeviceTold err answer
IsTold out err findings.OutOfMemory answer = Untouched out × IsMemoryTold err answer
