-- The verifier of a list of answers, as contracts see it.
use Rattle.std.specs.Prelude.{ℕ, map}
use Rattle.cert_desk_rules.specs.Judging.{Answers}
use Rattle.cert_desk_rules.specs.declared.answers_judge.AnswersJudge.{AnswersJudge}
use Rattle.cert_desk_rules.specs.Answers.{answer_plain, only_yes_to}

-- The verifier accepts exactly the questions of its list.
abbrev pub judge_answers : AnswersJudge → Answers
judge_answers judge = only_yes_to (map answer_plain judge.answers.sorted.items)

-- The number of questions to the verifier so far.
abbrev pub judge_questions : AnswersJudge → ℕ
judge_questions judge = judge.questions
