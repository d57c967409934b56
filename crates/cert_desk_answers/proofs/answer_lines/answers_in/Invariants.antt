-- The loop invariant of `answer_lines::answers_in`: the answers so far, followed by those of the
-- lines that are left, are those of the file.
use Rattle.std.proofs.Common.{◌≡◌, ℕ, ◌+◌, ◌≤◌, List, ◌++◌, length, map, Result, Ok, Err}
use Rattle.cert_desk_checking.specs.DeskRules.Answers.{answer_plain}
use Rattle.cert_desk_checking.specs.DeskRules.Questions.{Question}
use Rattle.cert_desk_answers.specs.declared.line_fault.LineFault.{LineFault}
use Rattle.cert_desk_answers.specs.AnswerLines.{answers_from, file_says}
use Rattle.cert_desk_answers.specs.AnswerReading.{parts_left, size_left}
use Rattle.cert_desk_answers.proofs.answer_lines.answers_in.Given as goal

-- The answers of the remaining lines, after those so far.
abbrev behind : List Question → Result (List Question) (ℕ × LineFault) → Result (List Question) (ℕ × LineFault)
behind before (Ok more) = Ok (before ++ more)
behind before (Err first) = Err first

abbrev pub invariant-lines : goal.invariant-lines
invariant-lines l =
    (l.number + size_left l.rest ≤ length l.fn.octets + 1)
    × (behind (map answer_plain l.answers.items) (answers_from l.number (parts_left 10 l.rest)) ≡ file_says l.fn.octets)

abbrev pub decreases-lines : goal.decreases-lines
decreases-lines l = size_left l.rest
