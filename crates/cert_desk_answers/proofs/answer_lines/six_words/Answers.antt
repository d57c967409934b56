-- Goals of `answer_lines::six_words` that the checker doesn't prove by itself.
use Rattle.std.proofs.Common.{rules}
use Rattle.cert_desk_answers.proofs.Cuts.{more_than_six}
use Rattle.cert_desk_answers.proofs.answer_lines.six_words.Goals as goal

pub returns-in_default-Some-cut-5 : goal.returns-in_default-Some-cut-5
returns-in_default-Some-cut-5 c = search (rules, more_than_six)
