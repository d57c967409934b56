-- What the commands `describe` and `explain` read, and the exit status of a run. The contracts
-- don't say which texts are printed.
use Rattle.std.specs.Prelude.{◌≡◌, ℕ, ◌⊎◌, List, Bool, true, false, Option, Some, None, Ok, Err}
use Rattle.std.specs.Prelude.{codes}
use Rattle.cert_tool_explain.specs.Oid.Bound.{Bound}
use Rattle.cert_tool_explain.specs.DeskIo.declared.exit_status.ExitStatus.{ExitStatus}
use Rattle.cert_tool_explain.specs.DeskIo.declared.exit_status.ExitStatus.TheVariants as statuses
use Rattle.cert_tool_explain.specs.DeskIo.declared.read_all_error.ReadAllError.{ReadAllError}
use Rattle.cert_tool_explain.specs.DeskIo.declared.read_all_error.ReadAllError.TheVariants as errors
use Rattle.cert_tool_explain.specs.DeskIo.Devices.{Device, Untouched}
use Rattle.cert_tool_explain.specs.DeskIo.Telling.{IsAnswer, IsComplaint, IsDeviceTold}
use Rattle.cert_tool_explain.specs.DeskIo.Telling.{IsMemoryTold}
use Rattle.cert_tool_explain.specs.DeskIo.Whole.{IsUnread, IsWhole, most_octets}
use Rattle.cert_tool_explain.specs.CertCertificates.Certificates.{PlainCertificate}
use Rattle.cert_tool_explain.specs.DeskRules.Answers.{only_yes_to}
use Rattle.cert_tool_explain.specs.DeskRules.declared.rule.Rule.{Rule}
use Rattle.cert_tool_explain.specs.DeskRules.Judging.{Answers, PlainAnchor, keeps_at}
use Rattle.cert_tool_explain.specs.DeskRules.Questions.{Question}
use Rattle.cert_tool_explain.specs.DeskChecking.declared.anchors_error.AnchorsError.{AnchorsError}
use Rattle.cert_tool_explain.specs.DeskChecking.declared.outcome.Outcome.{Outcome}
use Rattle.cert_tool_explain.specs.DeskChecking.declared.outcome.Outcome.TheVariants as outcomes
use Rattle.cert_tool_explain.specs.DeskChecking.AnchorFiles.{IsAnchorFile}
use Rattle.cert_tool_explain.specs.DeskChecking.AnchorReading.{IsNoAnchorFile}
use Rattle.cert_tool_explain.specs.DeskChecking.Anchors.{purpose_plain}
use Rattle.cert_tool_explain.specs.DeskChecking.Runs.{outcome_of, run_terms, status_of}
use Rattle.cert_tool_explain.specs.DeskBundle.Chains.{joined}
use Rattle.cert_tool_explain.specs.DeskBundle.Streams.{Kept}
use Rattle.cert_desk_answers.specs.declared.no_answers.NoAnswers.{NoAnswers}
use Rattle.cert_tool_limits.specs.declared.demands.DemandResult.{DemandResult}
use Rattle.cert_tool_limits.specs.declared.demands.DemandResult.TheVariants as forms
use Rattle.cert_tool_limits.specs.DemandChecks.{IsDemandResult, are_made}
use Rattle.cert_tool.specs.declared.option_values.Terms.{Terms}
use Rattle.cert_tool.specs.declared.status.Status.{Status}
use Rattle.cert_tool.specs.DemandReports.{IsDemandResultReported}
use Rattle.cert_tool.specs.Statuses.{Exits}
use Rattle.cert_tool.specs.EarlyEnds.{FedWithin, stop_of}
use Rattle.cert_tool.specs.Verifying.{AreAnswers, IsMissingAnswersReported}

-- The message for an input of 2^32 bytes or more.
abbrev pub too_long_line : List ℕ
too_long_line = codes "more than 4294967295 bytes\n"

-- The error output says why an input can't be read to its end, and the status is that of the error.
abbrev pub IsReadErrorReported : Device → ReadAllError → ExitStatus → Type 0
IsReadErrorReported err errors.TooMuch answer = IsComplaint err too_long_line statuses.Faulty answer
IsReadErrorReported err errors.Device answer = IsDeviceTold err answer
IsReadErrorReported err errors.OutOfMemory answer = IsMemoryTold err answer

-- The input can't be read to its end, and the reason is reported.
abbrev pub IsUnreadReported : Device → Device → ExitStatus → Type 0
IsUnreadReported input err answer =
    (error : ReadAllError) × IsUnread input most_octets error × IsReadErrorReported err error answer

-- The status of an explanation: `Done`, or `Refused`, which occurs only with `--fail-on-remark`
-- (`fails`). With it, the status is `Done` only for valid input.
abbrev pub IsStatusBy : Bool → Type 0 → ExitStatus → Type 0
IsStatusBy fails Valid status =
    ((status ≡ statuses.Done) × (fails ≡ true → Valid))
    ⊎ ((fails ≡ true) × (status ≡ statuses.Refused))

-- Some text is written to the output; or memory runs out for it, which is reported.
abbrev pub IsTextWritten : Bool → Type 0 → Device → Device → ExitStatus → Type 0
IsTextWritten fails Valid out err answer =
    ((text : List ℕ) × (status : ExitStatus) × IsStatusBy fails Valid status
    × IsAnswer out err text status answer)
    ⊎ (Untouched out × IsMemoryTold err answer)

-- Some text on the error output reports what ended the run, and the status is that of the end.
abbrev pub IsOutcomeExplained : Device → Outcome → ExitStatus → Type 0
IsOutcomeExplained err (outcomes.Checked checked) answer =
    (text : List ℕ) × IsComplaint err text (status_of checked.verdict) answer
IsOutcomeExplained err (outcomes.BadAnchors offset fault) answer =
    (text : List ℕ) × IsComplaint err text statuses.Arguments answer
IsOutcomeExplained err outcomes.Device answer = IsDeviceTold err answer
IsOutcomeExplained err outcomes.OutOfMemory answer = IsMemoryTold err answer

-- The result of checking the demands on a chain; without demands, they are met.
abbrev pub IsDemandResultIf : Bool → Terms → Answers → List ℕ → List PlainCertificate
    → DemandResult → Type 0
IsDemandResultIf true terms answers octets cs held =
    IsDemandResult terms.demands answers terms.moment terms.purpose cs octets held
IsDemandResultIf false terms answers octets cs held = held ≡ forms.Met

-- Each certificate of a chain keeps every rule under these trust anchors.
abbrev pub KeepsEachRule : Terms → Answers → List PlainAnchor → List PlainCertificate → Type 0
KeepsEachRule terms answers given cs = (place : ℕ) (rule : Rule)
    → keeps_at rule (run_terms given terms.moment (purpose_plain terms.purpose) answers) cs
    (joined Bound cs) place ≡ true

-- Some text is written to the output. The status is that of the demands, or `Refused` because of
-- `--fail-on-remark` (`fails`). With it, it is that of the demands only for a valid chain.
abbrev pub IsDemandResultWritten : Bool → Type 0 → Device → Device → DemandResult → Status → Type 0
IsDemandResultWritten fails Valid out err held answer =
    ((fails ≡ true → Valid) × ((text : List ℕ) × IsDemandResultReported out err text held answer))
    ⊎ ((fails ≡ true)
    × ((text : List ℕ) × Exits (IsAnswer out err text statuses.Refused) answer))

-- The demands on a chain are checked, and an explanation of the chain is written; or memory runs
-- out, which is reported.
abbrev pub IsChainTextWritten : Terms → Answers → List ℕ → List PlainAnchor → List PlainCertificate
    → Device → Device → Status → Type 0
IsChainTextWritten terms answers octets given cs out err answer =
    ((held : DemandResult) × IsDemandResultIf (are_made terms.demands) terms answers octets cs held
    × IsDemandResultWritten terms.fails_on_remark (KeepsEachRule terms answers given cs) out err
    held answer)
    ⊎ (Untouched out × Exits (IsMemoryTold err) answer)

-- What is reported after the stream was read: an explanation of its chain, or what ended the run.
abbrev pub IsStreamResultExplained : Option Outcome → Terms → Answers → List ℕ → List PlainAnchor
    → List PlainCertificate → Device → Device → Status → Type 0
IsStreamResultExplained None terms answers octets given cs out err answer =
    IsChainTextWritten terms answers octets given cs out err answer
IsStreamResultExplained (Some outcome) terms answers octets given cs out err answer =
    Untouched out × Exits (IsOutcomeExplained err outcome) answer

-- The stream is read. Its chain is explained, or it is reported why there is none.
abbrev pub IsStreamExplained : List ℕ → List PlainAnchor → Device → Device → Device → Terms
    → Answers → Status → Type 0
IsStreamExplained octets given stream out err terms answers answer =
    (kept : Kept) × FedWithin stream terms.limit kept
    × IsStreamResultExplained (stop_of kept) terms answers octets given kept.certificates out err
    answer

-- The chain is explained under the trust anchors that these bytes encode; or it is reported why the
-- bytes aren't trust anchors.
abbrev pub IsExplainedOf : List ℕ → Device → Device → Device → Terms → Answers → Status → Type 0
IsExplainedOf octets stream out err terms answers answer =
    ((given : List PlainAnchor) × IsAnchorFile octets given
    × IsStreamExplained octets given stream out err terms answers answer)
    ⊎ ((error : AnchorsError) × IsNoAnchorFile octets error × Untouched stream × Untouched out
    × Exits (IsOutcomeExplained err (outcome_of error)) answer)

-- The trust anchors are read to the end of their input, and then the stream is read; or the error
-- of reading the anchors is reported.
abbrev pub IsExplainedUnder : Device → Device → Device → Device → Terms → Answers → Status → Type 0
IsExplainedUnder anchors stream out err terms answers answer =
    ((octets : List ℕ) × IsWhole anchors most_octets octets
    × IsExplainedOf octets stream out err terms answers answer)
    ⊎ (Untouched stream × Untouched out × Exits (IsUnreadReported anchors err) answer)

-- `explain chain`: the answers are read, then the trust anchors and the stream; or it is reported
-- why the answers can't be read.
abbrev pub IsExplained : Device → Device → Device → Device → Device → Terms → Status → Type 0
IsExplained answers anchors stream out err terms answer =
    ((listing : List Question) × AreAnswers answers (Ok listing)
    × IsExplainedUnder anchors stream out err terms (only_yes_to listing) answer)
    ⊎ ((none : NoAnswers) × AreAnswers answers (Err none) × Untouched anchors × Untouched stream
    × Untouched out × Exits (IsMissingAnswersReported err none) answer)
