-- Goals of `laws::accepted_lines_judge_alike` that the checker doesn't prove by itself.
use Rattle.cert_desk_answers.proofs.KeptLines.{accepted_lines_judge_alike}
use Rattle.cert_desk_answers.proofs.laws.accepted_lines_judge_alike.Goals as goal

pub returns : goal.returns
returns c = accepted_lines_judge_alike
