-- Goals of `laws::kept_lines_are_read` that the checker doesn't prove by itself.
use Rattle.cert_desk_answers.proofs.KeptLines.{kept_lines_are_read}
use Rattle.cert_desk_answers.proofs.laws.kept_lines_are_read.Goals as goal

pub returns : goal.returns
returns c = kept_lines_are_read
