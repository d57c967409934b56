-- Goals of `blocks::joined` that the checker doesn't prove by itself.
use Rattle.std.proofs.Common.{ap, ◌∙◌}
use Rattle.std.specs.List.{concat}
use Rattle.std.proofs.lemmas.List.{take_all}
use Rattle.cert_tool_pem.proofs.Joined.{items, one_more}
use Rattle.cert_tool_pem.proofs.blocks.joined.Goals as goal

pub loop-value-preserved : goal.loop-value-preserved
loop-value-preserved c =
    let item = ap (λ value. value.items) c.value-item.is in
    let all = one_more c.args.values.now c.loop-value.value-index c.value-item.result c.loop-value-test.true in
    cc (c.in_ok-extend_from_slice.ensures.items, c.loop-value.invariant, c.as_slice.ensures.value, item, all)

pub returns : goal.returns
returns c = c.loop-value.invariant ∙ ap (λ values. concat (items values)) (take_all c.loop-value.value-index c.args.values.now c.loop-value-test.false)
