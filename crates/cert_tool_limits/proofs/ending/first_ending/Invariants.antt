-- No certificate so far ends, so the result is that of the remaining ones.
use Rattle.std.proofs.Common.{◌≡◌, drop}
use Rattle.std.specs.List.{list_any}
use Rattle.cert_tool_limits.specs.Limits.{certificate_ends}
use Rattle.cert_tool_limits.proofs.ending.first_ending.Given as goal

abbrev pub invariant-loop-place : goal.invariant-loop-place
invariant-loop-place l = record {
  left : list_any (certificate_ends l.days l.moment) (drop l.place l.bundle.certificates) ≡ list_any (certificate_ends l.days l.moment) l.bundle.certificates;
}
