-- What can end a run early, and how it is reported.
use Rattle.std.specs.Prelude.{◌≡◌, ℕ, ◌<◌, ◌⊎◌, List, [], ◌∷◌, length, Option, Some, None}
use Rattle.cert_tool_explain.specs.DeskIo.declared.exit_status.ExitStatus.{ExitStatus}
use Rattle.cert_tool_explain.specs.DeskIo.declared.exit_status.ExitStatus.TheVariants as statuses
use Rattle.cert_tool_explain.specs.DeskIo.Devices.{Device, IsCut, IsWritten}
use Rattle.cert_tool_explain.specs.DeskIo.Telling.{IsComplaint, IsDeviceTold, IsMemoryTold}
use Rattle.cert_tool_explain.specs.DeskRules.declared.checked.Verdict.{Verdict}
use Rattle.cert_tool_explain.specs.DeskRules.declared.checked.Verdict.TheVariants as verdicts
use Rattle.cert_tool_explain.specs.DeskBundle.declared.standing.Standing.{Standing}
use Rattle.cert_tool_explain.specs.DeskBundle.declared.standing.Standing.TheVariants as standings
use Rattle.cert_tool_explain.specs.DeskChecking.declared.outcome.Outcome.{Outcome}
use Rattle.cert_tool_explain.specs.DeskChecking.declared.outcome.Outcome.TheVariants as outcomes
use Rattle.cert_tool_explain.specs.Oid.Bound.{Bound}
use Rattle.cert_tool_explain.specs.CertCertificates.Certificates.{PlainCertificate}
use Rattle.cert_tool_explain.specs.DeskBundle.Chains.{joined}
use Rattle.cert_tool_explain.specs.DeskChecking.Lines.{anchors_line, line_of}
use Rattle.cert_tool_explain.specs.DeskChecking.Reading.{IsFed}
use Rattle.cert_tool_explain.specs.DeskChecking.Runs.{status_of}
use Rattle.cert_tool_explain.specs.DeskBundle.Streams.{Kept}

-- The outcome with a verdict that needed no signature.
abbrev pub without_questions : Verdict → Outcome
without_questions verdict = outcomes.Checked (record { verdict = verdict; calls = 0 })

-- The reason why a bundle in this state isn't a complete chain of at least one certificate, if it
-- isn't.
abbrev pub stop_under : Standing → List PlainCertificate → Option Outcome
stop_under standings.Open cs = None
stop_under standings.Ended [] = Some (without_questions verdicts.Empty)
stop_under standings.Ended (c ∷ cs) = None
stop_under (standings.Faulted kind) cs =
    Some (without_questions (verdicts.StreamFault (length cs) (length (joined Bound cs)) kind))
stop_under standings.NoMemory cs = Some outcomes.OutOfMemory
stop_under standings.NoDevice cs = Some outcomes.Device

-- The reason why a bundle isn't a complete chain of at least one certificate, if it isn't.
abbrev pub stop_of : Kept → Option Outcome
stop_of b = stop_under b.standing b.certificates

-- A bundle with this limit was fed with what the input returned.
abbrev pub FedWithin : Device → ℕ → Kept → Type 0
FedWithin stream limit b = (b.limit ≡ limit) × IsFed stream b

-- The error output reports what ended the run, and the status is that of the outcome. If memory
-- runs out for the message, only that is reported.
abbrev pub IsOutcomeReported : Device → Outcome → ExitStatus → Type 0
IsOutcomeReported err (outcomes.Checked checked) answer =
    IsComplaint err (line_of checked.verdict checked.calls) (status_of checked.verdict) answer
    ⊎ IsMemoryTold err answer
IsOutcomeReported err (outcomes.BadAnchors offset fault) answer =
    IsComplaint err (anchors_line offset fault) statuses.Arguments answer ⊎ IsMemoryTold err answer
IsOutcomeReported err outcomes.Device answer = IsDeviceTold err answer
IsOutcomeReported err outcomes.OutOfMemory answer = IsMemoryTold err answer

-- The text is written to the error output, or a write of it fails.
abbrev pub IsWriteTried : Device → List ℕ → Type 0
IsWriteTried err text = IsWritten err text ⊎ IsCut err text

-- A text that isn't empty is written to the error output, or a write of it fails. Other texts may
-- follow.
abbrev pub IsReasonReported : Device → Type 0
IsReasonReported err = (between : err.State) × (text : List ℕ) × (0 < length text)
    × IsWriteTried (record err { new = between }) text
