-- Goals of `choices::OneOf2FirstTag::first_tag` that the checker doesn't prove by itself.
use Rattle.std.proofs.Common.{ap}
use Rattle.der_core_coding.specs.CoreValues.Choices.{plain_of_two}
use Rattle.der_core.proofs.ShapeOrders.{left_starts, right_starts}
use Rattle.der_core.proofs.choices.OneOf2FirstTag.first_tag.Goals as goal

pub returns-in-First : goal.returns-in-First
returns-in-First g c =
    left_starts g.A.Shaped.shape g.B.Shaped.shape _ (g.A.Shaped.written c.in-First.value) c.first_tag.result (ap (plain_of_two g.A.Shaped.written g.B.Shaped.written) c.in-First.is) c.first_tag.ensures

pub returns-in-Second : goal.returns-in-Second
returns-in-Second g c =
    right_starts g.A.Shaped.shape g.B.Shaped.shape _ (g.B.Shaped.written c.in-Second.value) c.first_tag-in-Second.result (ap (plain_of_two g.A.Shaped.written g.B.Shaped.written) c.in-Second.is) c.first_tag-in-Second.ensures
