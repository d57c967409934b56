-- Goals of `choices::values_tag` that the checker doesn't prove by itself.
use Rattle.std.proofs.Common.{subst}
use Rattle.der_core_coding.specs.CoreHead.Shapes.{Value}
use Rattle.der_core.proofs.ShapeOrders.{TagIs}
use Rattle.der_core.proofs.choices.values_tag.Goals as goal

pub returns : goal.returns
returns g c = λ v d. let P : Value g.T.Shaped.shape → Type 0 = λ x. TagIs g.T.Shaped.shape x c.first_tag.result in subst P d c.first_tag.ensures
