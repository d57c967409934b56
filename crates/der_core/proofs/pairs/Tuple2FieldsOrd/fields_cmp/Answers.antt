-- Goals of `pairs::Tuple2FieldsOrd::fields_cmp` that the checker doesn't prove by itself.
use Rattle.std.proofs.Common.{Ok, ap, ◌∙◌}
use Rattle.std.specs.Ordering.{ordering_reverse}
use Rattle.std.proofs.lemmas.Result.{IfErr-weaker}
use Rattle.der_core.proofs.ShapeOrders.{neither_stands, neither_told, both_stand, both_told, first_stands, second_stands, others_long}
use Rattle.der_core.proofs.pairs.Tuple2FieldsOrd.fields_cmp.Goals as goal

pub returns-in-None-Some-clause-exact : goal.returns-in-None-Some-clause-exact
returns-in-None-Some-clause-exact g c = λ apart.
    let none = rw c.in-None-Some.is-0 at c.first_tag.ensures in
    let some = rw c.in-None-Some.is-1 at c.first_tag-2.ensures in
    c.next_cmp.ensures ∙ second_stands g.A.Shaped.shape g.B.FieldRow.fields _ _ c.fields_tag.result c.in-None-Some.tag none some c.fields_tag.ensures apart

pub returns-in-None-Some-clause-order : goal.returns-in-None-Some-clause-order
returns-in-None-Some-clause-order g c = λ apart p q. ap (λ o. Ok o) (returns-in-None-Some-clause-exact g c apart)

pub returns-in-Some-None-clause-exact : goal.returns-in-Some-None-clause-exact
returns-in-Some-None-clause-exact g c = λ apart.
    let some = rw c.in-Some-None.is-0 at c.first_tag.ensures in
    let none = rw c.in-Some-None.is-1 at c.first_tag-2.ensures in
    c.reverse.ensures
    ∙ ap ordering_reverse c.next_cmp-in-Some-None.ensures
    ∙ first_stands g.A.Shaped.shape g.B.FieldRow.fields _ _ c.fields_tag-in-Some-None.result c.in-Some-None.tag some none c.fields_tag-in-Some-None.ensures apart

pub returns-in-Some-None-clause-order : goal.returns-in-Some-None-clause-order
returns-in-Some-None-clause-order g c = λ apart p q. ap (λ o. Ok o) (returns-in-Some-None-clause-exact g c apart)

pub returns-in-None-None-clause-order : goal.returns-in-None-None-clause-order
returns-in-None-None-clause-order g c =
    neither_stands g.A.Shaped.shape g.B.FieldRow.fields _ _ c.fields_cmp.result (rw c.in-None-None.is-0 at c.first_tag.ensures) (rw c.in-None-None.is-1 at c.first_tag-2.ensures) c.fields_cmp.ensures.order

pub returns-in-None-None-clause-exact : goal.returns-in-None-None-clause-exact
returns-in-None-None-clause-exact g c =
    neither_told g.A.Shaped.shape g.B.FieldRow.fields _ _ c.fields_cmp.result (rw c.in-None-None.is-0 at c.first_tag.ensures) (rw c.in-None-None.is-1 at c.first_tag-2.ensures) c.fields_cmp.ensures.exact

pub returns-in-None-None-clause-refused : goal.returns-in-None-None-clause-refused
returns-in-None-None-clause-refused g c =
    IfErr-weaker c.fields_cmp.result _ _
    (others_long g.A.Shaped.shape g.B.FieldRow.fields (g.A.Shaped.written c.args.self.now.0, g.B.FieldRow.fields_written c.args.self.now.1) (g.A.Shaped.written c.args.other.now.0, g.B.FieldRow.fields_written c.args.other.now.1))
    c.fields_cmp.ensures.refused

pub returns-in-Some-Some-clause-order : goal.returns-in-Some-Some-clause-order
returns-in-Some-Some-clause-order g c =
    let first = rw c.in-Some-Some.is-0 at c.first_tag.ensures in
    let second = rw c.in-Some-Some.is-1 at c.first_tag-2.ensures in
    both_stand g.A.Shaped.shape g.B.FieldRow.fields _ _ c.in-Some-Some.field-0-0 c.in-Some-Some.field-0-1 c.row_cmp.result first second c.row_cmp.ensures.order

pub returns-in-Some-Some-clause-exact : goal.returns-in-Some-Some-clause-exact
returns-in-Some-Some-clause-exact g c =
    let first = rw c.in-Some-Some.is-0 at c.first_tag.ensures in
    let second = rw c.in-Some-Some.is-1 at c.first_tag-2.ensures in
    both_told g.A.Shaped.shape g.B.FieldRow.fields _ _ c.in-Some-Some.field-0-0 c.in-Some-Some.field-0-1 c.row_cmp.result first second c.row_cmp.ensures.exact
