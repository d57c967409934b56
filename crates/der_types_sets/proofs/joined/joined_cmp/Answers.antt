-- Goals of `joined::joined_cmp` that the checker doesn't prove by itself.
use Rattle.std.proofs.Common.{[], Ok, refl, ap, sym, ◌∙◌, eqb-true}
use Rattle.std.proofs.lemmas.Result.{err_from_is_err_and}
use Rattle.std.proofs.lemmas.List.{nil_from_length}
use Rattle.der_core.specs.Shapes.{IsBody, body_octets}
use Rattle.der_core.specs.Orders.{octets_cmp}
use Rattle.der_types_sets.proofs.SetSteps.{valid_at}
use Rattle.der_types_sets.proofs.AscendingSteps.{valid-plain}
use Rattle.der_types_sets.proofs.LentOrders.{some_at, remains_on, remains_unlike, remains_end, less_than_some, unwritten, starts_with, starts_otherwise}
use Rattle.der_types_sets.proofs.joined.joined_cmp.Goals as goal

pub loop-value-init : goal.loop-value-init
loop-value-init g c = record { order = refl }

pub returns-in_err-encoding : goal.returns-in_err-encoding
unfolding IsBody
returns-in_err-encoding g c =
    let s = g.T.Shaped.shape in
    let f = g.T.Shaped.written in
    let v = c.args.values.now in
    let i = c.loop-value.value-index in
    let x = c.value-item.result in
    let p = err_from_is_err_and c.from_residual.result c.from_residual.ensures.1 in
    rw (p.1, p.2) (record {
      order = λ valid memory. absurd (cc (c.in_err-encoding.ensures.spelled (valid_at s f v i x c.loop-value-test.true c.value-item.is (valid-plain s f v valid)) memory));
      refused = unwritten s f v i x c.in_err-encoding.field-0.0 c.loop-value-test.true c.value-item.is c.in_err-encoding.ensures.exact;
    })

pub returns-in_default-clause-order : goal.returns-in_default-clause-order
unfolding body_octets
returns-in_default-clause-order g c = λ valid.
    let unlike = starts_otherwise c.loop-value.left.now _ (rw c.as_slice.ensures.value at c.in_default.ensures.cases) in
    let order = rw c.as_slice-in_default.ensures.value at c.cmp.ensures in
    ap (λ o. Ok o) (remains_unlike c.loop-value.invariant c.loop-value-test.true c.value-item.is c.in_ok-encoding.ensures.octets.0 unlike ∙ sym order)

pub loop-value-preserved : goal.loop-value-preserved
loop-value-preserved g c =
    let starts = starts_with c.loop-value.left.now _ c.in-Some.behind (rw c.as_slice.ensures.value at c.in-Some.ensures.cases) in
    remains_on c.loop-value.invariant c.loop-value-test.true c.value-item.is c.in_ok-encoding.ensures.octets.0 starts

pub returns-then-is_empty-clause-order : goal.returns-then-is_empty-clause-order
unfolding body_octets
returns-then-is_empty-clause-order g c = λ valid.
    let none = nil_from_length c.loop-value.left.now (eqb-true _ 0 (sym c.is_empty.ensures ∙ c.if-is_empty.true)) in
    ap (λ o. Ok o) (remains_end c.loop-value.invariant c.loop-value-test.false ∙ ap (octets_cmp []) none)

pub returns-else-is_empty-clause-order : goal.returns-else-is_empty-clause-order
unfolding body_octets
returns-else-is_empty-clause-order g c = λ valid.
    ap (λ o. Ok o) (remains_end c.loop-value.invariant c.loop-value-test.false ∙ less_than_some c.loop-value.left.now (some_at _ (sym c.is_empty.ensures ∙ c.if-is_empty.false)))
