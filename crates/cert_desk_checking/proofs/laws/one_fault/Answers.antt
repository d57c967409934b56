-- Goals of `laws::one_fault` that the checker doesn't prove by itself.
use Rattle.cert_desk_rules.proofs.DeskBundle.OneChain.{one_fault}
use Rattle.cert_desk_checking.proofs.laws.one_fault.Goals as goal

pub returns : goal.returns
returns c = one_fault
