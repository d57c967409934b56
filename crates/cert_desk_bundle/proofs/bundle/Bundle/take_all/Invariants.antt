-- The loop invariant of `Bundle::take_all`: a prefix of the piece was consumed. The loop ends
-- because the remainder becomes shorter.
use Rattle.std.proofs.Common.{length}
use Rattle.x509_cert_certificates.specs.Oid.Bound.{Bound}
use Rattle.cert_desk_bundle.proofs.Readings.{Feeding}
use Rattle.cert_desk_bundle.proofs.bundle.Bundle.take_all.Given as goal

abbrev pub invariant-loop-left : goal.invariant-loop-left
invariant-loop-left l = Feeding Bound l.fn.self l.piece l.left l.self

abbrev pub decreases-loop-left : goal.decreases-loop-left
decreases-loop-left l = length l.left
