-- The outputs of `split` and `reverse`.
use Rattle.std.specs.Prelude.{◌≡◌, ◌≢◌, ℕ, zero, suc, ◌+◌, ◌⊎◌, List, [], ◌∷◌, ◌++◌, length, codes}
use Rattle.std.specs.Prelude.{decimal, Option, Some, None, slice_get, Bool, true, false, ◌==◌}
use Rattle.std.specs.Prelude.{if◌then◌else◌}
use Rattle.std.specs.Option.{option_map_or}
use Rattle.cert_tool_explain.specs.DeskIo.declared.exit_status.ExitStatus.{ExitStatus}
use Rattle.cert_tool_explain.specs.DeskIo.declared.exit_status.ExitStatus.TheVariants as statuses
use Rattle.cert_tool_explain.specs.DeskIo.Devices.{Device, Untouched}
use Rattle.cert_tool_explain.specs.DeskIo.Telling.{IsAnswer, IsComplaint, IsMemoryTold}
use Rattle.cert_tool_explain.specs.DeskChecking.declared.outcome.Outcome.{Outcome}
use Rattle.cert_tool_explain.specs.Oid.Bound.{Bound}
use Rattle.cert_tool_explain.specs.CertCertificates.Certificates.{PlainCertificate}
use Rattle.cert_tool_explain.specs.CertCertificates.Certificates.{certificate_octets}
use Rattle.cert_tool_explain.specs.CertCertificates.Certificates.{subject}
use Rattle.cert_tool_explain.specs.CertNames.PlainTexts.{name_text}
use Rattle.cert_tool_explain.specs.DeskBundle.Chains.{offset_at}
use Rattle.cert_tool_explain.specs.DeskBundle.Streams.{Kept}
use Rattle.cert_tool.specs.JsonTexts.{escaped_text, place_object}
use Rattle.cert_tool.specs.EarlyEnds.{IsOutcomeReported, stop_of}

-- The line of the certificate c at an index: the index, the offset and the number of bytes.
abbrev pub place_line : List PlainCertificate → ℕ → PlainCertificate → List ℕ
place_line cs place c =
    decimal place ++ codes " " ++ decimal (offset_at Bound cs place) ++ codes " "
    ++ decimal (length (certificate_octets Bound c)) ++ codes "\n"

-- The lines of the first certificates, whose number is given.
abbrev pub places_below : List PlainCertificate → ℕ → List ℕ
places_below cs zero = []
places_below cs (suc place) =
    places_below cs place ++ option_map_or (place_line cs place) (slice_get cs place) []

-- The lines of all certificates.
abbrev pub place_lines : List PlainCertificate → List ℕ
place_lines cs = places_below cs (length cs)

-- The JSON object (RFC 8259) of the certificate c at an index.
abbrev pub place_json : List PlainCertificate → ℕ → PlainCertificate → List ℕ
place_json cs place c =
    place_object place (offset_at Bound cs place) (length (certificate_octets Bound c))
    (escaped_text (name_text (subject c)))

-- The JSON object of the certificate at an index.
abbrev pub json_at : List PlainCertificate → ℕ → List ℕ
json_at cs place = option_map_or (place_json cs place) (slice_get cs place) []

-- The comma before the object of a certificate, which the first one doesn't have.
abbrev pub comma_before : ℕ → List ℕ
comma_before place = if place == 0 then [] else codes ","

-- The JSON array of the first certificates, whose number is given, without its closing bracket.
abbrev pub json_places_below : List PlainCertificate → ℕ → List ℕ
json_places_below cs zero = codes "["
json_places_below cs (suc place) =
    json_places_below cs place ++ comma_before place ++ json_at cs place

-- The list of the certificates, as JSON or as lines.
abbrev pub places_text : Bool → List PlainCertificate → List ℕ
places_text true cs = json_places_below cs (length cs) ++ codes "]\n"
places_text false cs = place_lines cs

-- The bytes of the certificates, the last one first.
abbrev pub reversed : List PlainCertificate → List ℕ
reversed [] = []
reversed (c ∷ cs) = reversed cs ++ certificate_octets Bound c

-- The message for an index that no certificate has.
abbrev pub no_place_line : List ℕ
no_place_line = codes "no certificate has that index\n"

-- The error output says what ended the stream early, if anything did.
abbrev pub IsEarlyEndReported : Device → Option Outcome → ExitStatus → Type 0
IsEarlyEndReported err None answer = Untouched err × (answer ≡ statuses.Done)
IsEarlyEndReported err (Some outcome) answer = IsOutcomeReported err outcome answer

-- The list of the certificates that were read is written, and then it is reported what ended the
-- stream early. If memory runs out or the write fails, only that is reported.
abbrev pub IsListed : Bool → Device → Device → Kept → ExitStatus → Type 0
IsListed json out err b answer =
    (Untouched out × IsMemoryTold err answer)
    ⊎ ((between : err.State) × (first : ExitStatus)
    × IsAnswer out (record err { new = between }) (places_text json b.certificates) statuses.Done
    first
    × (((first ≢ statuses.Done) × (answer ≡ first) × Untouched (record err { old = between }))
    ⊎ ((first ≡ statuses.Done)
    × IsEarlyEndReported (record err { old = between }) (stop_of b) answer)))

-- The bytes of the certificate are written. If there is no certificate at the index, it is reported
-- what ended the stream, or that no certificate has the index.
abbrev pub IsTakenAt : Device → Device → Option Outcome → Option PlainCertificate → ExitStatus
    → Type 0
IsTakenAt out err stop (Some c) answer =
    IsAnswer out err (certificate_octets Bound c) statuses.Done answer
IsTakenAt out err (Some outcome) None answer = Untouched out × IsOutcomeReported err outcome answer
IsTakenAt out err None None answer = Untouched out
    × IsComplaint err no_place_line statuses.Arguments answer

-- The bytes of the certificate at an index are written, or the reason why there is none is
-- reported.
abbrev pub IsTaken : Device → Device → Kept → ℕ → ExitStatus → Type 0
IsTaken out err b place answer = IsTakenAt out err (stop_of b) (slice_get b.certificates place)
    answer

-- The bytes of the certificates are written, the last one first. If an error ended the stream, only
-- the error is reported.
abbrev pub IsReversedBy : Device → Device → Option Outcome → List PlainCertificate → ExitStatus
    → Type 0
IsReversedBy out err (Some outcome) cs answer = Untouched out × IsOutcomeReported err outcome answer
IsReversedBy out err None cs answer = IsAnswer out err (reversed cs) statuses.Done answer
    ⊎ (Untouched out × IsMemoryTold err answer)

-- The certificates of a bundle are written, the last one first, if it is a complete chain.
abbrev pub IsReversed : Device → Device → Kept → ExitStatus → Type 0
IsReversed out err b answer = IsReversedBy out err (stop_of b) b.certificates answer
