-- Goals of `with_default::WithDefaultFirstTag::first_tag` that the checker doesn't prove by itself.
use Rattle.std.proofs.Common.{subst}
use Rattle.der_core_coding.specs.CoreHead.Shapes.{Value}
use Rattle.der_core.proofs.ShapeOrders.{TagIs, default_absent, default_starts}
use Rattle.der_core.proofs.with_default.WithDefaultFirstTag.first_tag.Goals as goal

pub returns-then-is_default : goal.returns-then-is_default
returns-then-is_default g c = default_absent g.T.Shaped.shape g.T.DefaultValue.default_octets _ c.if-is_default.ensures.value

pub returns-else-is_default : goal.returns-else-is_default
returns-else-is_default g c =
    let P : Value g.T.Shaped.shape → Type 0 = λ v. TagIs g.T.Shaped.shape v c.first_tag.result in
    default_starts g.T.Shaped.shape g.T.DefaultValue.default_octets _ c.first_tag.result c.if-is_default.ensures.value (subst P (g.met.T.AsRead.as_read c.args.self.now.value) c.first_tag.ensures)
