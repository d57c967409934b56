-- Goals of `laws::one_chain` that the checker doesn't prove by itself.
use Rattle.cert_desk_rules.proofs.DeskBundle.OneChain.{one_chain}
use Rattle.cert_desk_checking.proofs.laws.one_chain.Goals as goal

pub returns : goal.returns
returns c = one_chain
