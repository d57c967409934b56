-- The loop invariant of `reasons::counted_behind`: the certificates up to here are counted.
use Rattle.std.proofs.Common.{◌≡◌, ◌≤◌, ◌+◌, ◌-◌}
use Rattle.x509_cert_anchors.specs.Oid.Bound.{Bound}
use Rattle.cert_desk_rules.specs.Paths.{used_up}
use Rattle.cert_desk_checking.proofs.reasons.counted_behind.Given as goal

abbrev pub invariant-loop-step : goal.invariant-loop-step
invariant-loop-step l = record {
  behind : l.before ≤ l.step;
  counted : l.count ≡ used_up Bound l.bundle.certificates (l.before + 1) (l.step - l.before);
  few : l.count ≤ l.step;
}
