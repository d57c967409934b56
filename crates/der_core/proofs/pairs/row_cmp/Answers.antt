-- Goals of `pairs::row_cmp` that the checker doesn't prove by itself.
use Rattle.std.proofs.Common.{rules, ap, ◌∙◌, sym}
use Rattle.std.proofs.lemmas.Result.{IfErr-weaker}
use Rattle.std.specs.Ordering.{ordering_then}
use Rattle.der_core.specs.Orders.{bodies_cmp}
use Rattle.der_core.proofs.OrderLaws.{first_decides, others_decide, told_as}
use Rattle.der_core.proofs.ShapeOrders.{first_long, others_long}
use Rattle.der_core.proofs.pairs.row_cmp.Goals as goal

pub returns-in_err-first-clause-refused : goal.returns-in_err-first-clause-refused
returns-in_err-first-clause-refused g c =
    let long = first_long g.A.Shaped.shape g.B.FieldRow.fields (g.A.Shaped.written c.args.row.now.0, g.B.FieldRow.fields_written c.args.row.now.1) (g.A.Shaped.written c.args.other.now.0, g.B.FieldRow.fields_written c.args.other.now.1)
    c.in_err-first.field-0.0 c.in_err-first.ensures.refused in
    search rules

pub returns-then-is_ne-clause-exact : goal.returns-then-is_ne-clause-exact
returns-then-is_ne-clause-exact g c = λ apart others.
    let rest = bodies_cmp g.B.FieldRow.fields (g.B.FieldRow.fields_written c.args.row.now.1) (g.B.FieldRow.fields_written c.args.other.now.1) in
    first_decides c.in_ok-first.first rest (sym c.is_ne.ensures ∙ c.if-is_ne.true) ∙ ap (λ o. ordering_then o rest) (c.in_ok-first.ensures.exact apart)

pub returns-clause-exact : goal.returns-clause-exact
returns-clause-exact g c = λ apart others.
    let rest = bodies_cmp g.B.FieldRow.fields (g.B.FieldRow.fields_written c.args.row.now.1) (g.B.FieldRow.fields_written c.args.other.now.1) in
    told_as c.fields_cmp.result
    (others_decide c.in_ok-first.first rest (sym c.is_ne.ensures ∙ c.if-is_ne.false) ∙ ap (λ o. ordering_then o rest) (c.in_ok-first.ensures.exact apart))
    (c.fields_cmp.ensures.exact others)

pub returns-clause-refused : goal.returns-clause-refused
returns-clause-refused g c =
    IfErr-weaker c.fields_cmp.result _ _
    (others_long g.A.Shaped.shape g.B.FieldRow.fields (g.A.Shaped.written c.args.row.now.0, g.B.FieldRow.fields_written c.args.row.now.1) (g.A.Shaped.written c.args.other.now.0, g.B.FieldRow.fields_written c.args.other.now.1))
    c.fields_cmp.ensures.refused
