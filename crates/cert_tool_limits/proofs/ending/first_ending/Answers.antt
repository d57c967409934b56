-- The certificate at an index ends or doesn't.
use Rattle.std.proofs.Common.{sym, ◌∙◌}
use Rattle.cert_tool_limits.specs.Limits.{certificate_ends}
use Rattle.cert_tool_limits.proofs.EntryLaws.{found_here, not_here}
use Rattle.cert_tool_limits.proofs.ending.first_ending.Goals as goal

pub returns-then-certificate_ends-clause-some : goal.returns-then-certificate_ends-clause-some
returns-then-certificate_ends-clause-some c =
    found_here c.args.bundle.now.certificates c.loop-place.place _ _ c.get.ensures.entry c.unwrap-entry.ensures (certificate_ends c.args.days c.args.moment)
    (sym c.certificate_ends.ensures ∙ c.if-certificate_ends.true) c.loop-place.invariant.left

pub loop-place-preserved : goal.loop-place-preserved
loop-place-preserved c = record {
  left = not_here c.args.bundle.now.certificates c.loop-place.place _ _ c.get.ensures.entry c.unwrap-entry.ensures (certificate_ends c.args.days c.args.moment)
      (sym c.certificate_ends.ensures ∙ c.if-certificate_ends.false) c.loop-place.invariant.left;
}
