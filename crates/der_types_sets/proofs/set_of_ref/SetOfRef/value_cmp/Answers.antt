-- Goals of `set_of_ref::SetOfRef::value_cmp` that the checker doesn't prove by itself.
use Rattle.std.proofs.Common.{Ok, ap, sym, ◌∙◌, inl, inr, eqb-true}
use Rattle.std.proofs.lemmas.Result.{err_from_is_err_and, IfErr-weaker}
use Rattle.der_core.specs.Shapes.{many, contents, body_octets, IsContent}
use Rattle.der_core.specs.Grammar.{plain_list}
use Rattle.der_core.proofs.Results.{ok_is}
use Rattle.der_types_sets.proofs.Arranged.{turned}
use Rattle.der_types_sets.proofs.LentOrders.{some_at, of_values, of_octets, spelled_contents, answered, first_unwritten, second_unwritten}
use Rattle.der_types_sets.proofs.set_of_ref.SetOfRef.value_cmp.Goals as goal

pub returns-then-is_empty-2 : goal.returns-then-is_empty-2
unfolding contents IsContent
returns-then-is_empty-2 g c =
    let s = g.T.Shaped.shape in
    let f = g.T.Shaped.written in
    let first = of_values s f _ c.self.invariant (eqb-true _ 0 (sym c.is_empty.ensures ∙ c.if-is_empty.true)) in
    let second = of_values s f _ c.other.invariant (eqb-true _ 0 (sym c.is_empty-then-is_empty.ensures ∙ c.if-is_empty-2.true)) in
    rw (← c.self.view_is, ← c.other.view_is, first, second) (record {
      order = λ apart v w. answered c.elements_cmp.result _ (c.elements_cmp.ensures.order apart v w);
      refused = IfErr-weaker c.elements_cmp.result _ _ (λ e over. inr over) c.elements_cmp.ensures.refused;
    })

pub returns-then-is_empty : goal.returns-then-is_empty
unfolding contents IsContent
returns-then-is_empty g c =
    let s = g.T.Shaped.shape in
    let f = g.T.Shaped.written in
    let none = eqb-true _ 0 (sym c.is_empty.ensures ∙ c.if-is_empty.true) in
    let some = some_at _ (sym c.is_empty-then-is_empty.ensures ∙ c.if-is_empty-2.false) in
    let first = of_values s f _ c.self.invariant none in
    let second = of_octets s f _ c.other.invariant some in
    rw (← c.self.view_is, ← c.other.view_is, first, second) (record {
      order = λ apart v w. rw (spelled_contents s f _ c.other.invariant) (c.joined_cmp.ensures.order v);
      refused = IfErr-weaker c.joined_cmp.result _ _ (first_unwritten (inl (none, some)) s _ _) c.joined_cmp.ensures.refused;
    })

pub returns-in_err-order : goal.returns-in_err-order
unfolding IsContent
returns-in_err-order g c =
    let s = g.T.Shaped.shape in
    let some = some_at _ (sym c.is_empty.ensures ∙ c.if-is_empty.false) in
    let none = eqb-true _ 0 (sym c.is_empty-2.ensures ∙ c.if-is_empty-3.true) in
    let second = of_values s g.T.Shaped.written _ c.other.invariant none in
    let p = err_from_is_err_and c.from_residual.result c.from_residual.ensures.1 in
    rw (p.1, p.2, ← c.self.view_is, ← c.other.view_is, second) (record {
      order = λ apart v w memory. absurd (cc (c.in_err-order.ensures.order w memory));
      refused = second_unwritten (inr (some, none)) s _ _ c.in_err-order.field-0.0 c.in_err-order.ensures.refused;
    })

pub returns-then-is_empty-3-clause-order : goal.returns-then-is_empty-3-clause-order
unfolding contents IsContent
returns-then-is_empty-3-clause-order g c =
    let s = g.T.Shaped.shape in
    let f = g.T.Shaped.written in
    let first = of_octets s f _ c.self.invariant (some_at _ (sym c.is_empty.ensures ∙ c.if-is_empty.false)) in
    let second = of_values s f _ c.other.invariant (eqb-true _ 0 (sym c.is_empty-2.ensures ∙ c.if-is_empty-3.true)) in
    rw (c.reverse.ensures, ← c.self.view_is, ← c.other.view_is, first, second) (λ apart v w.
    rw (spelled_contents s f _ c.self.invariant) (ap (λ o. Ok o) (turned (body_octets (many s) (plain_list f c.other.inside.values.now)) c.self.inside.octets.now c.in_ok-order.order (ok_is _ _ (c.in_ok-order.ensures.order w)))))

pub returns-clause-order : goal.returns-clause-order
unfolding contents IsContent
returns-clause-order g c =
    let s = g.T.Shaped.shape in
    let f = g.T.Shaped.written in
    let first = of_octets s f _ c.self.invariant (some_at _ (sym c.is_empty.ensures ∙ c.if-is_empty.false)) in
    let second = of_octets s f _ c.other.invariant (some_at _ (sym c.is_empty-2.ensures ∙ c.if-is_empty-3.false)) in
    rw (← c.self.view_is, ← c.other.view_is, first, second) (λ apart v w.
    rw (spelled_contents s f _ c.self.invariant, spelled_contents s f _ c.other.invariant) (ap (λ o. Ok o) (sym c.cmp.ensures)))
