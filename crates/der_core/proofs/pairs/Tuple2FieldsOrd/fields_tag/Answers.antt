-- Goals of `pairs::Tuple2FieldsOrd::fields_tag` that the checker doesn't prove by itself.
use Rattle.der_core.proofs.ShapeOrders.{first_starts, next_starts}
use Rattle.der_core.proofs.pairs.Tuple2FieldsOrd.fields_tag.Goals as goal

pub returns-in-Some : goal.returns-in-Some
returns-in-Some g c = first_starts g.A.Shaped.shape g.B.FieldRow.fields _ c.in-Some.tag (rw c.in-Some.is at c.first_tag.ensures)

pub returns-in-None : goal.returns-in-None
returns-in-None g c = next_starts g.A.Shaped.shape g.B.FieldRow.fields _ c.fields_tag.result (rw c.in-None.is at c.first_tag.ensures) c.fields_tag.ensures
