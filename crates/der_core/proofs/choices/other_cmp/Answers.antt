-- Goals of `choices::other_cmp` that the checker doesn't prove by itself.
use Rattle.std.proofs.Common.{◌∙◌}
use Rattle.der_core.proofs.ShapeOrders.{first_below, never_absent}
use Rattle.der_core.proofs.choices.other_cmp.Goals as goal

pub returns-in-Some : goal.returns-in-Some
returns-in-Some g c = λ apart.
    c.next_cmp.ensures
    ∙ first_below g.A.Shaped.shape g.B.Shaped.shape (g.A.Shaped.written c.args.value.now) (g.B.Shaped.written c.args.other.now) c.first_tag-in-Some.result c.in-Some.tag c.first_tag-in-Some.ensures
    c.in-Some.ensures apart

pub returns-in-None : goal.returns-in-None
returns-in-None g c = λ apart.
    absurd (never_absent g.A.Shaped.shape g.B.Shaped.shape (g.A.Shaped.written c.args.value.now) (g.B.Shaped.written c.args.other.now) c.in-None.ensures apart)
