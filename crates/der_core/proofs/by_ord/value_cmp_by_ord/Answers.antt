-- Goals of `by_ord::value_cmp_by_ord` that the checker doesn't prove by itself.
use Rattle.std.proofs.Common.{◌∙◌}
use Rattle.der_core.proofs.by_ord.value_cmp_by_ord.Goals as goal

pub returns-clause-order : goal.returns-clause-order
returns-clause-order g c = λ p q e. c.cmp.ensures ∙ g.met.T.OrdIsValueOrd.order c.args.a.now c.args.b.now p q e
