-- Goals of `order::AnyFirstTag::first_tag` that the checker doesn't prove by itself.
use Rattle.std.proofs.Common.{arith, subst}
use Rattle.der_core_coding.specs.CoreHead.Tags.{IsTag}
use Rattle.der_core.proofs.ShapeOrders.{tagged_starts}
use Rattle.der_core.proofs.order.AnyFirstTag.first_tag.Goals as goal

pub returns : goal.returns
returns g c =
    let tag : IsTag g.T.FixedTag.fixed_tag = subst IsTag c.tag-tag.ensures (omega (arith, c.number_of-number.ensures, c.number_of-number.type_inv)) in
    rw c.tag-tag.ensures (tagged_starts g.T.FixedTag.fixed_tag g.T.ShapedValue.content (g.T.ShapedValue.value_written c.args.self.now) tag)
