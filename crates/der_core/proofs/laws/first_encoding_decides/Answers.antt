-- Goals of `laws::first_encoding_decides` that the checker doesn't prove by itself.
use Rattle.der_core_coding.specs.CoreHead.Shapes.{octets_of}
use Rattle.der_core.proofs.OrderLaws.{octets_cmp-append}
use Rattle.der_core.proofs.ShapeOrders.{element_splits}
use Rattle.der_core.proofs.laws.first_encoding_decides.Goals as goal

pub returns : goal.returns
returns c = λ s v w r t e p q. octets_cmp-append (octets_of s v) (octets_of s w) r t (element_splits s v w e)
