-- Goals of `laws::wider_bounds_keep_trust` that the checker doesn't prove by itself.
use Rattle.cert_desk_checking.proofs.WiderVerdicts.{trust_wider}
use Rattle.cert_desk_checking.proofs.laws.wider_bounds_keep_trust.Goals as goal

pub returns : goal.returns
returns c = trust_wider
