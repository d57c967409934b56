-- Parsing a file of answers, line by line.
use Rattle.std.specs.Prelude.{◌≡◌, ℕ, ◌+◌, List, [], ◌∷◌, ◌++◌, length, Option, Some, None}
use Rattle.std.specs.Prelude.{Result, Ok, Err}
use Rattle.std.specs.Borrow.{Bor}
use Rattle.cert_desk_checking.specs.DeskRules.Questions.{Question}
use Rattle.cert_desk_answers.specs.declared.answer_lines.LineError.{LineError}
use Rattle.cert_desk_answers.specs.declared.answer_lines.LineError.TheVariants as errors
use Rattle.cert_desk_answers.specs.declared.answer_lines.Words.{Words}
use Rattle.cert_desk_answers.specs.declared.line_fault.LineFault.{LineFault}
use Rattle.cert_desk_answers.specs.declared.line_fault.LineFault.TheVariants as faults
use Rattle.cert_desk_answers.specs.declared.no_answers.NoAnswers.{NoAnswers}
use Rattle.cert_desk_answers.specs.declared.no_answers.NoAnswers.TheVariants as reasons
use Rattle.cert_desk_answers.specs.AnswerLines.{file_says, line_says, parts, six_say}

-- The parser fails with this error, or memory ran out.
abbrev pub FailsBy : {A : Type 0} → Result A LineFault → LineError → Type 0
FailsBy read (errors.Fault fault) = read ≡ Err fault
FailsBy read errors.OutOfMemory = Unit {0}

-- The parts of the text that is left, if any is left.
abbrev pub parts_left : ℕ → Option (Bor (List ℕ)) → List (List ℕ)
parts_left separator None = []
parts_left separator (Some text) = parts separator text.now

-- A number that decreases when a part is cut off: 0 if no text is left, and one more than its
-- length otherwise.
abbrev pub size_left : Option (Bor (List ℕ)) → ℕ
size_left None = 0
size_left (Some text) = length text.now + 1

-- The question on the words of a line, or the error if there aren't six.
abbrev pub six_or_none : Option Words → Result Question LineFault
six_or_none None = Err faults.NotSixWords
six_or_none (Some w) =
    six_say w.place.now w.anchor.now w.key.now w.algorithm.now w.signed.now w.bits.now

-- The reason why a file has no answers.
abbrev pub IsNoFile : List ℕ → NoAnswers → Type 0
IsNoFile octets (reasons.Line number fault) = file_says octets ≡ Err (number, fault)
IsNoFile octets reasons.TooMuch = ⊥
IsNoFile octets reasons.Device = ⊥
IsNoFile octets reasons.OutOfMemory = Unit {0}

-- The answers after a line with this meaning, or `None` if the line is wrong.
abbrev pub added_by : Result (Option Question) LineFault → List Question → Option (List Question)
added_by (Err fault) before = None
added_by (Ok None) before = Some before
added_by (Ok (Some q)) before = Some (before ++ q ∷ [])

-- The reason why the line with this number can't be parsed.
abbrev pub IsNoLine : List ℕ → ℕ → NoAnswers → Type 0
IsNoLine line number (reasons.Line n fault) = (line_says line ≡ Err fault) × (n ≡ number)
IsNoLine line number reasons.TooMuch = ⊥
IsNoLine line number reasons.Device = ⊥
IsNoLine line number reasons.OutOfMemory = Unit {0}
