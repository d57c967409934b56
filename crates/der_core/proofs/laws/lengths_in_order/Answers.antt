-- Goals of `laws::lengths_in_order` that the checker doesn't prove by itself.
use Rattle.der_core.proofs.OrderLaws.{length_octets_cmp}
use Rattle.der_core.proofs.laws.lengths_in_order.Goals as goal

pub returns : goal.returns
returns c = length_octets_cmp
