-- Goals of `laws::no_chain_with_a_fault` that the checker doesn't prove by itself.
use Rattle.cert_desk_rules.proofs.DeskBundle.OneChain.{fault_no_chain}
use Rattle.cert_desk_checking.proofs.laws.no_chain_with_a_fault.Goals as goal

pub returns : goal.returns
returns c = fault_no_chain
