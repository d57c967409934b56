-- Goals of `laws::questions_are_listed` that the checker doesn't prove by itself.
use Rattle.cert_desk_checking.proofs.ListedQuestions.{judged_by_lines, questions_are_listed}
use Rattle.cert_desk_checking.proofs.laws.questions_are_listed.Goals as goal

pub returns-clause-listed : goal.returns-clause-listed
returns-clause-listed c = questions_are_listed

pub returns-clause-judged : goal.returns-clause-judged
returns-clause-judged c = judged_by_lines
