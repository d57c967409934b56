-- The loop invariant of `reasons::exceeded_length`: the path lengths of the certificates so far are
-- kept, and `left` is the number of certificates that count from here on.
use Rattle.std.proofs.Common.{◌≡◌, ◌+◌, ◌-◌, true}
use Rattle.x509_cert_anchors.specs.Oid.Bound.{Bound}
use Rattle.cert_desk_rules.specs.Paths.{used_up, keep_lengths}
use Rattle.cert_desk_checking.proofs.reasons.exceeded_length.Given as goal

abbrev pub invariant-loop-before : goal.invariant-loop-before
invariant-loop-before l = record {
  kept : keep_lengths Bound l.bundle.certificates l.before l.place ≡ true;
  left : l.left ≡ used_up Bound l.bundle.certificates (l.before + 1) (l.place - l.before);
}
