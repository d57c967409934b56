-- The validation of a chain with a file of trust anchors and a file of answers.
use Rattle.std.specs.Prelude.{◌≡◌, ◌⊎◌, ℕ, List, Result, Ok, Err}
use Rattle.cert_desk_checking.specs.DeskIo.declared.exit_status.ExitStatus.{ExitStatus}
use Rattle.cert_desk_checking.specs.DeskIo.declared.exit_status.ExitStatus.TheVariants as statuses
use Rattle.cert_desk_checking.specs.DeskRules.declared.checked.Verdict.{Verdict}
use Rattle.cert_desk_checking.specs.DeskRules.declared.checked.Verdict.TheVariants as verdicts
use Rattle.cert_desk_checking.specs.DeskRules.Answers.{only_yes_to}
use Rattle.cert_desk_checking.specs.DeskRules.Judging.{PlainAnchor, Terms}
use Rattle.cert_desk_checking.specs.DeskRules.Questions.{Question}
use Rattle.cert_desk_checking.specs.AnchorFiles.{IsAnchorFile}
use Rattle.cert_desk_checking.specs.Runs.{run_terms}
use Rattle.cert_desk_answers.specs.AnswerLines.{file_says}

-- The files contain trust anchors and answers. The predicate holds for the terms that they give,
-- whose verifier accepts what is listed, and nothing else.
abbrev pub UnderGiven : List ℕ → List ℕ → ℕ → List ℕ → (Terms → Type 0) → Type 0
UnderGiven anchors answers moment arcs Says =
    (given : List PlainAnchor) × (listing : List Question)
    × IsAnchorFile anchors given × (file_says answers ≡ Ok listing)
    × Says (run_terms given moment arcs (only_yes_to listing))

-- The files contain trust anchors and answers.
abbrev pub AreGiven : List ℕ → List ℕ → Type 0
AreGiven anchors answers =
    (given : List PlainAnchor) × (listing : List Question)
    × IsAnchorFile anchors given × (file_says answers ≡ Ok listing)

-- The reason why there is no result: a file is wrong, or memory ran out.
abbrev pub IsUnanswered : Type 0 → ExitStatus → Type 0
IsUnanswered Faulty status =
    ((status ≡ statuses.Arguments) × Faulty) ⊎ (status ≡ statuses.Memory)

-- The chain is trusted, or memory ran out.
abbrev pub SaysTrusted : Result Verdict ExitStatus → Type 0
SaysTrusted (Ok verdict) = verdict ≡ verdicts.Trusted
SaysTrusted (Err status) = status ≡ statuses.Memory
