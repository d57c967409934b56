-- Laws about every file of answers.
use Rattle.std.specs.Prelude.{◌≡◌, ℕ, List, Contains, Ok, filter}
use Rattle.std.specs.List.{AllByRecursion}
use Rattle.cert_desk_checking.specs.Oid.Bound.{Bound}
use Rattle.cert_desk_checking.specs.DeskRules.declared.checked.Verdict.{Verdict}
use Rattle.cert_desk_checking.specs.AnchorFiles.{IsAnchorFile}
use Rattle.cert_desk_checking.specs.DeskRules.Answers.{only_yes_to}
use Rattle.cert_desk_checking.specs.CertCertificates.Certificates.{PlainCertificate}
use Rattle.cert_desk_checking.specs.DeskBundle.Chains.{Chain}
use Rattle.cert_desk_checking.specs.DeskRules.Judging.{Answers, PlainAnchor, Terms}
use Rattle.cert_desk_checking.specs.QuestionLines.{QuestionLine, chain_lines, lines_octets}
use Rattle.cert_desk_checking.specs.QuestionLines.{questions_of_lines}
use Rattle.cert_desk_checking.specs.DeskRules.Questions.{Question, answer_on, under}
use Rattle.cert_desk_checking.specs.DeskRules.Verdicts.{Asks, IsVerdict}
use Rattle.cert_desk_answers.specs.AnswerLines.{file_says}

-- Each selection of the lines of a chain's questions, in any order, is parsed as exactly these
-- questions.
abbrev pub KeptLinesAreRead : Type 0
KeptLinesAreRead =
    (file : List ℕ) (anchors : List PlainAnchor) (limit : ℕ) (cs : List PlainCertificate)
    (stream : List ℕ) (kept : List QuestionLine)
    → IsAnchorFile file anchors → Chain Bound limit cs stream
    → AllByRecursion (Contains (chain_lines anchors cs stream)) kept
    → file_says (lines_octets kept) ≡ Ok (questions_of_lines kept)

-- The lines whose question a verifier accepts.
abbrev pub accepted_lines : Answers → List QuestionLine → List QuestionLine
accepted_lines answers lines = filter (λ l. answer_on answers l.question) lines

-- The answers parsed from the lines of a chain that a verifier accepts give the chain the same
-- verdict as that verifier, and ask as often.
abbrev pub AcceptedLinesJudgeAlike : Type 0
AcceptedLinesJudgeAlike =
    (file : List ℕ) (t : Terms) (limit : ℕ) (cs : List PlainCertificate) (stream : List ℕ)
    (answers : List Question) (verdict : Verdict) (n : ℕ)
    → t.bound ≡ Bound → IsAnchorFile file t.anchors → Chain Bound limit cs stream
    → file_says (lines_octets (accepted_lines t.answers (chain_lines t.anchors cs stream)))
    ≡ Ok answers
    → (IsVerdict t limit stream verdict
    → IsVerdict (under t (only_yes_to answers)) limit stream verdict)
    × (Asks t limit stream n → Asks (under t (only_yes_to answers)) limit stream n)
