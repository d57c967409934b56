-- Goals of `choices::values_cmp` that the checker doesn't prove by itself.
use Rattle.der_core.proofs.ShapeOrders.{compared, told, overflowing}
use Rattle.der_core.proofs.choices.values_cmp.Goals as goal

pub returns-clause-order : goal.returns-clause-order
returns-clause-order g c = λ v w d e apart. compared g.T.Shaped.shape _ _ v w c.der_cmp.result d e (c.der_cmp.ensures.order apart)

pub returns-clause-exact : goal.returns-clause-exact
returns-clause-exact g c = λ v w d e apart. told g.T.Shaped.shape _ _ v w c.der_cmp.result d e (c.der_cmp.ensures.exact apart)

pub returns-clause-refused : goal.returns-clause-refused
returns-clause-refused g c = λ v w d e. overflowing g.T.Shaped.shape _ _ v w c.der_cmp.result d e c.der_cmp.ensures.refused
