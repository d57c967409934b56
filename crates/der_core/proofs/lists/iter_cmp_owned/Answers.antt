-- Goals of `lists::iter_cmp_owned` that the checker doesn't prove by itself.
use Rattle.std.proofs.Common.{rules, Ok, ap, sym, ◌∙◌}
use Rattle.der_core.proofs.IterOrders.{at_next, at_decided, at_not_refused, at_long, at_second_ended, at_first_ended, at_both_ended}
use Rattle.der_core.proofs.lists.iter_cmp_owned.Goals as goal

pub returns-in_default-clause-exact : goal.returns-in_default-clause-exact
returns-in_default-clause-exact g c = λ xs ys p q.
    at_second_ended g.I.Iterator.next_gives g.T.Shaped.shape g.T.Shaped.written xs ys _ _ _ _ c.in-Some.value (c.loop-value.invariant.3 xs ys p q)
    c.in-Some.ensures.steps c.in_default.ensures.steps

pub returns-in_default-clause-order : goal.returns-in_default-clause-order
returns-in_default-clause-order g c = λ xs ys p q apart v w. ap (λ o. Ok o) (returns-in_default-clause-exact g c xs ys p q apart)

pub returns-in_err-order-clause-order : goal.returns-in_err-order-clause-order
returns-in_err-order-clause-order g c = λ xs ys p q apart v w.
    absurd (at_not_refused g.I.Iterator.next_gives g.T.Shaped.shape g.T.Shaped.written xs ys _ _ _ _ c.in-Some.value c.in-Some-next.other c.in_err-order.field-0.0
    (c.loop-value.invariant.3 xs ys p q) c.in-Some.ensures.steps c.in-Some-next.ensures.steps c.in_err-order.ensures.order apart v w)

pub returns-in_err-order-clause-refused : goal.returns-in_err-order-clause-refused
returns-in_err-order-clause-refused g c = λ xs ys p q.
    let long = at_long g.I.Iterator.next_gives g.T.Shaped.shape g.T.Shaped.written xs ys _ _ _ _ c.in-Some.value c.in-Some-next.other c.in_err-order.field-0.0
    (c.loop-value.invariant.3 xs ys p q) c.in-Some.ensures.steps c.in-Some-next.ensures.steps c.in_err-order.ensures.refused in
    search rules

pub returns-then-is_ne-clause-exact : goal.returns-then-is_ne-clause-exact
returns-then-is_ne-clause-exact g c = λ xs ys p q.
    at_decided g.I.Iterator.next_gives g.T.Shaped.shape g.T.Shaped.written xs ys _ _ _ _ c.in-Some.value c.in-Some-next.other c.in_ok-order.order
    (c.loop-value.invariant.3 xs ys p q) c.in-Some.ensures.steps c.in-Some-next.ensures.steps c.in_ok-order.ensures.exact (sym c.is_ne.ensures ∙ c.if-is_ne.true)

pub returns-then-is_ne-clause-order : goal.returns-then-is_ne-clause-order
returns-then-is_ne-clause-order g c = λ xs ys p q apart v w. ap (λ o. Ok o) (returns-then-is_ne-clause-exact g c xs ys p q apart)

pub loop-value-preserved : goal.loop-value-preserved
loop-value-preserved g c = (
  search rules,
  search rules,
  search rules,
  λ xs ys p q.
      at_next g.I.Iterator.next_gives g.T.Shaped.shape g.T.Shaped.written xs ys _ _ _ _ c.in-Some.value c.in-Some-next.other c.in_ok-order.order
      (c.loop-value.invariant.3 xs ys p q) c.in-Some.ensures.steps c.in-Some-next.ensures.steps c.in_ok-order.ensures.exact (sym c.is_ne.ensures ∙ c.if-is_ne.false),
)

pub returns-in-Some-next-2-clause-exact : goal.returns-in-Some-next-2-clause-exact
returns-in-Some-next-2-clause-exact g c = λ xs ys p q.
    at_first_ended g.I.Iterator.next_gives g.T.Shaped.shape g.T.Shaped.written xs ys _ _ _ _ c.in-Some-next-2.field-0 (c.loop-value.invariant.3 xs ys p q)
    c.in-None.ensures.steps c.in-Some-next-2.ensures.steps

pub returns-in-Some-next-2-clause-order : goal.returns-in-Some-next-2-clause-order
returns-in-Some-next-2-clause-order g c = λ xs ys p q apart v w. ap (λ o. Ok o) (returns-in-Some-next-2-clause-exact g c xs ys p q apart)

pub returns-clause-exact : goal.returns-clause-exact
returns-clause-exact g c = λ xs ys p q.
    at_both_ended g.I.Iterator.next_gives g.T.Shaped.shape g.T.Shaped.written xs ys _ _ _ _ (c.loop-value.invariant.3 xs ys p q)
    c.in-None.ensures.steps c.in-None-next.ensures.steps

pub returns-clause-order : goal.returns-clause-order
returns-clause-order g c = λ xs ys p q apart v w. ap (λ o. Ok o) (returns-clause-exact g c xs ys p q apart)
