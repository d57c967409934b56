-- Goals of `laws::one_verdict` that the checker doesn't prove by itself.
use Rattle.cert_desk_checking.proofs.OneVerdict.{one_verdict}
use Rattle.cert_desk_checking.proofs.laws.one_verdict.Goals as goal

pub returns : goal.returns
returns c = one_verdict
