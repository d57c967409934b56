-- Goals of `blocks::joined_back` that the checker doesn't prove by itself.
use Rattle.std.proofs.Common.{◌≡◌, ◌+◌, ◌-◌, ◌<◌, length, drop, reverse, arith, ap, sym, ◌∙◌}
use Rattle.std.specs.List.{concat}
use Rattle.std.proofs.lemmas.List.{drop_all}
use Rattle.cert_tool_pem.proofs.Joined.{items, one_before}
use Rattle.cert_tool_pem.proofs.blocks.joined_back.Goals as goal

pub loop-left-init : goal.loop-left-init
loop-left-init c = (
  omega arith,
  c.new-octets.ensures.items ∙ sym (ap (λ values. concat (reverse (items values))) (drop_all (length c.args.values.now) c.args.values.now (omega arith))),
)

pub loop-left-preserved : goal.loop-left-preserved
loop-left-preserved c =
    let values = c.args.values.now in
    let left = c.loop-left.left in
    let next : (left - 1) + 1 ≡ left = omega (arith, c.loop-left-test.true) in
    let within : left - 1 < length values = omega (arith, c.loop-left-test.true, c.loop-left.invariant.0) in
    let item = ap (λ value. value.items) c.index-values-left.is in
    let all = one_before values (left - 1) c.index-values-left.result within in
    let before = ap (λ n. concat (reverse (items (drop n values)))) next in (
      omega (arith, c.loop-left.invariant.0),
      cc (c.in_ok-extend_from_slice.ensures.items, c.loop-left.invariant.1, c.as_slice.ensures.value, item, all, before),
    )
