-- Goals of `order::cmp_behind` that the checker doesn't prove by itself.
use Rattle.std.proofs.Common.{rules, Ok, ap, sym, ◌∙◌}
use Rattle.der_core.proofs.OrderLaws.{then_both, never_long, tagged_content, first_long, second_long, headers_decide, contents_decide}
use Rattle.der_core.proofs.order.cmp_behind.Goals as goal

pub returns-in_err-len-clause-order : goal.returns-in_err-len-clause-order
returns-in_err-len-clause-order g c = λ apart p q.
    absurd (never_long c.args.tag g.T.ShapedValue.content (g.T.ShapedValue.value_written c.args.value.now) _ p c.in_err-len.ensures)

pub returns-in_err-len-clause-refused : goal.returns-in_err-len-clause-refused
returns-in_err-len-clause-refused g c =
    let long = first_long c.args.tag c.args.other_tag g.T.ShapedValue.content (g.T.ShapedValue.value_written c.args.value.now) (g.T.ShapedValue.value_written c.args.other.now) c.in_err-len.field-0.0 c.in_err-len.ensures in
    search rules

pub returns-in_err-other_len-clause-order : goal.returns-in_err-other_len-clause-order
returns-in_err-other_len-clause-order g c = λ apart p q.
    absurd (never_long c.args.other_tag g.T.ShapedValue.content (g.T.ShapedValue.value_written c.args.other.now) _ q c.in_err-other_len.ensures)

pub returns-in_err-other_len-clause-refused : goal.returns-in_err-other_len-clause-refused
returns-in_err-other_len-clause-refused g c =
    let long = second_long c.args.tag c.args.other_tag g.T.ShapedValue.content (g.T.ShapedValue.value_written c.args.value.now) (g.T.ShapedValue.value_written c.args.other.now) c.in_err-other_len.field-0.0 c.in_err-other_len.ensures in
    search rules

pub returns-then-is_ne-clause-order : goal.returns-then-is_ne-clause-order
returns-then-is_ne-clause-order g c = λ apart p q.
    ap (λ o. Ok o)
    (headers_decide c.args.tag c.args.other_tag g.T.ShapedValue.content (g.T.ShapedValue.value_written c.args.value.now) (g.T.ShapedValue.value_written c.args.other.now) _ _ _
    c.in_ok-len.ensures c.in_ok-other_len.ensures
    (c.then-headers.ensures ∙ then_both _ _ _ _ c.tag_cmp.ensures.order c.length_cmp.ensures)
    (sym c.is_ne.ensures ∙ c.if-is_ne.true))

pub returns-then-is_ne-clause-exact : goal.returns-then-is_ne-clause-exact
returns-then-is_ne-clause-exact g c = λ apart.
    headers_decide c.args.tag c.args.other_tag g.T.ShapedValue.content (g.T.ShapedValue.value_written c.args.value.now) (g.T.ShapedValue.value_written c.args.other.now) _ _ _
    c.in_ok-len.ensures c.in_ok-other_len.ensures
    (c.then-headers.ensures ∙ then_both _ _ _ _ c.tag_cmp.ensures.order c.length_cmp.ensures)
    (sym c.is_ne.ensures ∙ c.if-is_ne.true)

pub returns-clause-order : goal.returns-clause-order
returns-clause-order g c = λ apart p q.
    let t = c.args.tag in
    let u = c.args.other_tag in
    let k = g.T.ShapedValue.content in
    let v = g.T.ShapedValue.value_written c.args.value.now in
    let w = g.T.ShapedValue.value_written c.args.other.now in
    c.in_ok-contents.ensures.order apart (tagged_content t k v p) (tagged_content u k w q)
    ∙ ap (λ o. Ok o)
    (contents_decide t u k v w _ _ _ c.in_ok-len.ensures c.in_ok-other_len.ensures
    (c.then-headers.ensures ∙ then_both _ _ _ _ c.tag_cmp.ensures.order c.length_cmp.ensures)
    (sym c.is_ne.ensures ∙ c.if-is_ne.false))

pub returns-clause-exact : goal.returns-clause-exact
returns-clause-exact g c = λ apart.
    c.in_ok-contents.ensures.exact apart
    ∙ contents_decide c.args.tag c.args.other_tag g.T.ShapedValue.content (g.T.ShapedValue.value_written c.args.value.now) (g.T.ShapedValue.value_written c.args.other.now) _ _ _
    c.in_ok-len.ensures c.in_ok-other_len.ensures
    (c.then-headers.ensures ∙ then_both _ _ _ _ c.tag_cmp.ensures.order c.length_cmp.ensures)
    (sym c.is_ne.ensures ∙ c.if-is_ne.false)
