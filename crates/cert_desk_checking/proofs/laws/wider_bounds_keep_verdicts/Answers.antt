-- Goals of `laws::wider_bounds_keep_verdicts` that the checker doesn't prove by itself.
use Rattle.cert_desk_checking.proofs.WiderVerdicts.{verdicts_wider}
use Rattle.cert_desk_checking.proofs.laws.wider_bounds_keep_verdicts.Goals as goal

pub returns : goal.returns
returns c = verdicts_wider
