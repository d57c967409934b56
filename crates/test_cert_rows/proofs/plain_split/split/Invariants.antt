-- The loop invariant of `plain_split::split`: the input begins with the certificates so far.
use Rattle.std.proofs.Common.{◌-◌, length, map}
use Rattle.cert_desk_checking.specs.CertCertificates.Views.{certificate_plain}
use Rattle.test_cert_rows.proofs.SplitFronts.{SoFar}
use Rattle.test_cert_rows.proofs.plain_split.split.Given as goal
use Rattle.const_oid.specs.Bound.{Bound}

abbrev pub invariant-loop-certificates : goal.invariant-loop-certificates
invariant-loop-certificates l = SoFar Bound l.limit l.stream (map certificate_plain l.certificates.items) l.start

abbrev pub decreases-loop-certificates : goal.decreases-loop-certificates
decreases-loop-certificates l = length l.stream - l.start
