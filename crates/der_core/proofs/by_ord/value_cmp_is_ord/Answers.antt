-- Goals of `by_ord::value_cmp_is_ord` that the checker doesn't prove by itself.
use Rattle.std.proofs.Common.{Ok, ap, sym, ◌∙◌}
use Rattle.der_core.proofs.by_ord.value_cmp_is_ord.Goals as goal

pub returns-clause-order : goal.returns-clause-order
returns-clause-order g c = λ apart p q e. c.in_ok-order.ensures.order apart p q ∙ sym (ap (λ o. Ok o) (g.met.T.OrdIsValueOrd.order c.args.a.now c.args.b.now p q e))
