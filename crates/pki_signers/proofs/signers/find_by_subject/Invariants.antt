-- The loop invariant of `signers::find_by_subject`: no certificate so far has the subject.
use Rattle.std.proofs.Common.{◌≡◌, drop}
use Rattle.std.specs.List.{position, position_from}
use Rattle.cert_desk_checking.specs.Oid.Bound.{Bound}
use Rattle.cert_desk_checking.specs.CertCertificates.CertNames.Views.{name_plain}
use Rattle.pki_signers.specs.Signers.{has_subject}
use Rattle.pki_signers.proofs.signers.find_by_subject.Given as goal

abbrev pub invariant-loop-place : goal.invariant-loop-place
invariant-loop-place l = position_from (has_subject Bound (name_plain l.subject)) l.place (drop l.place l.certificates.certificates) ≡ position (has_subject Bound (name_plain l.subject)) l.certificates.certificates
