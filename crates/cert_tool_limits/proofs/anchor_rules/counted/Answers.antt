-- One more certificate, which counts or doesn't.
use Rattle.std.proofs.Common.{◌≡◌, ◌+◌, length, true, false, ap, ◌∙◌, arith}
use Rattle.x509_cert_anchors.specs.Oid.Bound.{Bound}
use Rattle.cert_desk_rules.specs.Paths.{used_up}
use Rattle.cert_tool_limits.proofs.EntryLaws.{counted_here}
use Rattle.cert_tool_limits.proofs.anchor_rules.counted.Goals as goal

pub loop-place-preserved : goal.loop-place-preserved
loop-place-preserved c =
    let more = counted_here c.args.bundle.now.certificates c.loop-place.place _ _ c.get.ensures.entry c.unwrap-entry.ensures
    _ _ true c.len-len.ensures c.counts.ensures c.if-not-counts.false in
    record { counted = ap (λ n. n + 1) c.loop-place.invariant.counted ∙ more; few = omega (arith, c.loop-place.invariant.few) }

pub loop-place-preserved-then-not-counts : goal.loop-place-preserved-then-not-counts
loop-place-preserved-then-not-counts c =
    let more = counted_here c.args.bundle.now.certificates c.loop-place.place _ _ c.get.ensures.entry c.unwrap-entry.ensures
    _ _ false c.len-len.ensures c.counts.ensures c.if-not-counts.true in
    let same : used_up Bound c.args.bundle.now.certificates 0 c.loop-place.place ≡ used_up Bound c.args.bundle.now.certificates 0 c.loop-place.place + 0 = omega arith in
    record { counted = c.loop-place.invariant.counted ∙ same ∙ more; few = omega (arith, c.loop-place.invariant.few) }

pub returns : goal.returns
returns c =
    let end : c.loop-place.place ≡ length c.args.bundle.now.certificates = omega arith in
    c.loop-place.invariant.counted ∙ ap (used_up Bound c.args.bundle.now.certificates 0) end
