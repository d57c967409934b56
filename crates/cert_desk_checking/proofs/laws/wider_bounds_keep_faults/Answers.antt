-- Goals of `laws::wider_bounds_keep_faults` that the checker doesn't prove by itself.
use Rattle.cert_desk_checking.proofs.WiderFaults.{faults_wider}
use Rattle.cert_desk_checking.proofs.laws.wider_bounds_keep_faults.Goals as goal

pub returns : goal.returns
returns c = faults_wider
