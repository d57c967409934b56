-- The outcome of a run of the program that validates a chain, given its two inputs and its
-- verifier, and the text that reports the outcome.
use Rattle.std.specs.Prelude.{◌≡◌, ℕ, ◌⊎◌, List}
use Rattle.x509_cert_anchors.specs.Oid.Bound.{Bound}
use Rattle.cert_desk_rules.specs.DeskIo.declared.exit_status.ExitStatus.{ExitStatus}
use Rattle.cert_desk_rules.specs.DeskIo.declared.exit_status.ExitStatus.TheVariants as statuses
use Rattle.cert_desk_rules.specs.DeskIo.declared.read_all_error.ReadAllError.TheVariants as reasons
use Rattle.cert_desk_rules.specs.DeskIo.Devices.{Device, Moved, MetEnd, Sound, Untouched}
use Rattle.cert_desk_rules.specs.DeskIo.Telling.{IsAnswer, IsComplaint, IsDeviceTold, IsMemoryTold}
use Rattle.cert_desk_rules.specs.DeskIo.Whole.{IsWhole, IsUnread, most_octets}
use Rattle.cert_desk_checking.specs.declared.anchor_fault.AnchorFault.TheVariants as faults
use Rattle.cert_desk_checking.specs.declared.anchors_error.AnchorsError.{AnchorsError}
use Rattle.cert_desk_checking.specs.declared.anchors_error.AnchorsError.TheVariants as errors
use Rattle.cert_desk_rules.specs.declared.checked.Verdict.{Verdict}
use Rattle.cert_desk_rules.specs.declared.checked.Verdict.TheVariants as verdicts
use Rattle.cert_desk_rules.specs.DeskBundle.declared.fault_kind.FaultKind.TheVariants as kinds
use Rattle.cert_desk_checking.specs.declared.outcome.Outcome.{Outcome}
use Rattle.cert_desk_checking.specs.declared.outcome.Outcome.TheVariants as outcomes
use Rattle.cert_desk_checking.specs.AnchorFiles.{IsAnchorFile}
use Rattle.cert_desk_checking.specs.AnchorReading.{IsNoAnchorFile}
use Rattle.cert_desk_rules.specs.Judging.{PlainAnchor, Answers, Terms}
use Rattle.cert_desk_checking.specs.Lines.{line_of, anchors_line}
use Rattle.cert_desk_checking.specs.Reading.{AsksNoMore, ReadFailed}
use Rattle.cert_desk_rules.specs.Verdicts.{IsVerdict, IsCounted, StopsAsking}

-- The input was read to its end, and its bytes are a file of these trust anchors.
abbrev pub HasAnchors : Device → List PlainAnchor → Type 0
HasAnchors input anchors = (octets : List ℕ) × IsWhole input most_octets octets
    × IsAnchorFile octets anchors

-- Why an input of trust anchors wasn't read to its end. If it has too many bytes, that is reported
-- as malformed, at offset 0.
abbrev pub IsUnreadFor : Device → AnchorsError → Type 0
IsUnreadFor input (errors.BadAnchors offset fault) =
    IsUnread input most_octets reasons.TooMuch × (offset ≡ 0) × (fault ≡ faults.Malformed)
IsUnreadFor input errors.Device = IsUnread input most_octets reasons.Device
IsUnreadFor input errors.OutOfMemory = IsUnread input most_octets reasons.OutOfMemory

-- Why an input gives no trust anchors: its bytes aren't a file of usable ones, or it wasn't read to
-- its end.
abbrev pub HasNoAnchors : Device → AnchorsError → Type 0
HasNoAnchors input error =
    ((octets : List ℕ) × IsWhole input most_octets octets × IsNoAnchorFile octets error)
    ⊎ IsUnreadFor input error

-- The outcome of a run without trust anchors.
abbrev pub outcome_of : AnchorsError → Outcome
outcome_of (errors.BadAnchors offset fault) = outcomes.BadAnchors offset fault
outcome_of errors.Device = outcomes.Device
outcome_of errors.OutOfMemory = outcomes.OutOfMemory

-- How far the chain's input is read for a verdict: to its end or, if it has an error, up to the
-- read that returned the bytes with the error.
abbrev pub IsReadFor : Verdict → Device → ℕ → Type 0
IsReadFor verdicts.Trusted stream limit = MetEnd stream
IsReadFor (verdicts.Refused place rule) stream limit = MetEnd stream
IsReadFor (verdicts.StreamFault place offset kind) stream limit =
    (kind ≡ kinds.Truncated → MetEnd stream) × AsksNoMore stream limit
IsReadFor verdicts.Empty stream limit = MetEnd stream

-- A verifier during a call: its answers, its count of questions, and its states before and after
-- the call.
pub record Judge : Type 1 where
  pub State : Type 0
  pub answers : State → Answers
  pub questions : State → ℕ
  pub old : State
  pub new : State

-- Builds a `Judge` from its parts.
abbrev pub judging : {State : Type 0} → (State → Answers) → (State → ℕ) → State → State → Judge
judging {State} answers questions old new =
    record { State = State; answers = answers; questions = questions; old = old; new = new }

-- The verifier wasn't asked.
abbrev pub IsUnasked : Judge → Type 0
IsUnasked judge = judge.new ≡ judge.old

-- The terms of a run (`Terms`): its trust anchors, validation time, key purpose and verifier.
abbrev pub run_terms : List PlainAnchor → ℕ → List ℕ → Answers → Terms
run_terms anchors moment purpose answers =
    record {
      bound = Bound;
      anchors = anchors;
      moment = moment;
      purpose = purpose;
      answers = answers;
    }

-- Memory runs out after the trust anchors were read. Either it runs out while the chain is read,
-- and the verifier isn't asked, or the chain is read to its end, and the verifier has been asked
-- about its first certificates, which keep every rule.
abbrev pub IsReadInVain : Device → Judge → Terms → ℕ → Type 0
IsReadInVain stream judge terms limit =
    Sound stream
    × ((AsksNoMore stream limit × IsUnasked judge)
    ⊎ ((octets : List ℕ) × Moved stream octets × MetEnd stream
    × StopsAsking terms limit octets (judge.questions judge.old) (judge.questions judge.new)))

-- The exit status for a verdict.
abbrev pub status_of : Verdict → ExitStatus
status_of verdicts.Trusted = statuses.Done
status_of (verdicts.Refused place rule) = statuses.Refused
status_of (verdicts.StreamFault place offset kind) = statuses.Faulty
status_of verdicts.Empty = statuses.Empty

-- What an outcome says about the two inputs and the verifier. If the trust anchors or an I/O error
-- end the run, the verifier wasn't asked. The chain's input is only used after the trust anchors
-- were read to their end.
abbrev pub IsOutcome : Device → Device → Judge → ℕ → List ℕ → ℕ → Outcome → Type 0
IsOutcome anchors stream judge moment purpose limit (outcomes.Checked checked) =
    (given : List PlainAnchor) × (octets : List ℕ)
    × HasAnchors anchors given
    × Moved stream octets × Sound stream × IsReadFor checked.verdict stream limit
    × IsVerdict (run_terms given moment purpose (judge.answers judge.old)) limit octets
    checked.verdict
    × IsCounted (run_terms given moment purpose (judge.answers judge.old)) limit octets checked
    (judge.questions judge.old) (judge.questions judge.new)
IsOutcome anchors stream judge moment purpose limit (outcomes.BadAnchors offset fault) =
    HasNoAnchors anchors (errors.BadAnchors offset fault) × Untouched stream × IsUnasked judge
IsOutcome anchors stream judge moment purpose limit outcomes.Device =
    ((HasNoAnchors anchors errors.Device × Untouched stream)
    ⊎ ((given : List PlainAnchor) × HasAnchors anchors given × ReadFailed stream limit))
    × IsUnasked judge
IsOutcome anchors stream judge moment purpose limit outcomes.OutOfMemory =
    (HasNoAnchors anchors errors.OutOfMemory × Untouched stream × IsUnasked judge)
    ⊎ ((given : List PlainAnchor) × HasAnchors anchors given
    × IsReadInVain stream judge (run_terms given moment purpose (judge.answers judge.old)) limit)

-- What is printed for an outcome, and the exit status. If memory runs out while the text is made,
-- that is reported instead.
abbrev pub IsTold : Device → Device → Outcome → ExitStatus → Type 0
IsTold out err (outcomes.Checked checked) answer =
    IsAnswer out err (line_of checked.verdict checked.calls) (status_of checked.verdict) answer
    ⊎ (Untouched out × IsMemoryTold err answer)
IsTold out err (outcomes.BadAnchors offset fault) answer =
    Untouched out × (IsComplaint err (anchors_line offset fault) statuses.Arguments answer
    ⊎ IsMemoryTold err answer)
IsTold out err outcomes.Device answer = Untouched out × IsDeviceTold err answer
IsTold out err outcomes.OutOfMemory answer = Untouched out × IsMemoryTold err answer
