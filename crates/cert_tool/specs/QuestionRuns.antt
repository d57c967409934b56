-- The output of `questions`.
use Rattle.std.specs.Prelude.{◌≡◌, ℕ, ◌⊎◌, List, Some, None, Result, Ok, Err}
use Rattle.cert_tool_explain.specs.DeskIo.declared.exit_status.ExitStatus.{ExitStatus}
use Rattle.cert_tool_explain.specs.DeskIo.declared.exit_status.ExitStatus.TheVariants as statuses
use Rattle.cert_tool_explain.specs.DeskIo.Devices.{Device, Untouched}
use Rattle.cert_tool_explain.specs.DeskIo.Telling.{IsAnswer}
use Rattle.cert_tool_explain.specs.DeskChecking.declared.anchors_error.AnchorsError.{AnchorsError}
use Rattle.cert_tool_explain.specs.DeskChecking.declared.outcome.Outcome.{Outcome}
use Rattle.cert_tool_explain.specs.DeskChecking.declared.outcome.Outcome.TheVariants as outcomes
use Rattle.cert_tool_explain.specs.Oid.Bound.{Bound}
use Rattle.cert_tool_explain.specs.DeskBundle.Chains.{joined}
use Rattle.cert_tool_explain.specs.DeskRules.Judging.{PlainAnchor}
use Rattle.cert_tool_explain.specs.DeskChecking.Runs.{HasAnchors, HasNoAnchors, outcome_of}
use Rattle.cert_tool_explain.specs.DeskBundle.Streams.{Kept}
use Rattle.cert_tool_explain.specs.DeskChecking.QuestionLines.{chain_lines, lines_octets}
use Rattle.cert_tool.specs.EarlyEnds.{FedWithin, IsOutcomeReported, stop_of}

-- What is found in the inputs: the lines of the questions of a chain of at least one certificate,
-- or the reason why there are none. If the trust anchors are the reason, the stream isn't read.
abbrev pub AreQuestionsFound : Device → Device → ℕ → Result (List ℕ) Outcome → Type 0
AreQuestionsFound anchors_in stream limit (Ok text) =
    (anchors : List PlainAnchor) × (b : Kept) × HasAnchors anchors_in anchors
    × FedWithin stream limit b
    × (stop_of b ≡ None)
    × (text ≡ lines_octets (chain_lines anchors b.certificates (joined Bound b.certificates)))
AreQuestionsFound anchors_in stream limit (Err outcome) =
    ((error : AnchorsError) × (outcome ≡ outcome_of error) × HasNoAnchors anchors_in error
    × Untouched stream)
    ⊎ ((anchors : List PlainAnchor) × (b : Kept) × HasAnchors anchors_in anchors
    × FedWithin stream limit b
    × ((stop_of b ≡ Some outcome) ⊎ (outcome ≡ outcomes.OutOfMemory)))

-- The lines are written to the output; or the reason why there are none is reported on the error
-- output.
abbrev pub AreQuestionsReported : Device → Device → Result (List ℕ) Outcome → ExitStatus → Type 0
AreQuestionsReported out err (Ok text) answer = IsAnswer out err text statuses.Done answer
AreQuestionsReported out err (Err outcome) answer =
    Untouched out × IsOutcomeReported err outcome answer
