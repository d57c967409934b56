-- Goals of `laws::few_questions` that the checker doesn't prove by itself.
use Rattle.cert_desk_checking.proofs.Strangers.{few_questions}
use Rattle.cert_desk_checking.proofs.laws.few_questions.Goals as goal

pub returns : goal.returns
returns c = few_questions
