-- Goals of `laws::wider_bounds_keep_chains` that the checker doesn't prove by itself.
use Rattle.cert_desk_checking.proofs.TwoBounds.{chain_new, chain_wider}
use Rattle.cert_desk_checking.proofs.laws.wider_bounds_keep_chains.Goals as goal

pub returns-clause-kept : goal.returns-clause-kept
returns-clause-kept c = chain_wider

pub returns-clause-new : goal.returns-clause-new
returns-clause-new c = chain_new
