-- Goals of `any_ref::AnyRefFirstTag::first_tag` that the checker doesn't prove by itself.
use Rattle.std.proofs.Common.{arith}
use Rattle.der_types_text.proofs.Der.ShapeOrders.{any_starts}
use Rattle.der_types_any.specs.Anys.{any_lent}
use Rattle.der_types_any.proofs.any_ref.AnyRefFirstTag.first_tag.Goals as goal

pub returns : goal.returns
returns c = any_starts (any_lent c.args.self.now) (omega (arith, c.number_of-number.ensures, c.number_of-number.type_inv))
