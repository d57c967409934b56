-- Goals of `laws::fault_stays` that the checker doesn't prove by itself.
use Rattle.cert_desk_rules.proofs.DeskBundle.FaultStays.{fault_stays}
use Rattle.cert_desk_checking.proofs.laws.fault_stays.Goals as goal

pub returns : goal.returns
returns c = fault_stays
