-- The count is that of the certificates so far.
use Rattle.std.proofs.Common.{◌≡◌, ◌≤◌}
use Rattle.x509_cert_anchors.specs.Oid.Bound.{Bound}
use Rattle.cert_desk_rules.specs.Paths.{used_up}
use Rattle.cert_tool_limits.proofs.anchor_rules.counted.Given as goal

abbrev pub invariant-loop-place : goal.invariant-loop-place
invariant-loop-place l = record {
  counted : l.count ≡ used_up Bound l.bundle.certificates 0 l.place;
  few : l.count ≤ l.place;
}
