-- The loop invariant of `paths::issuer_among`: no certificate so far has the issuer as its subject.
use Rattle.std.proofs.Common.{◌≡◌, drop}
use Rattle.std.specs.List.{position, position_from}
use Rattle.cert_desk_checking.specs.Oid.Bound.{Bound}
use Rattle.cert_desk_checking.specs.CertCertificates.Views.{certificate_plain}
use Rattle.pki_signers.specs.Paths.{is_issuer}
use Rattle.pki_signers.proofs.paths.issuer_among.Given as goal

abbrev pub invariant-loop-place : goal.invariant-loop-place
invariant-loop-place l = position_from (is_issuer Bound (certificate_plain l.certificate)) l.place (drop l.place l.certificates.certificates)
    ≡ position (is_issuer Bound (certificate_plain l.certificate)) l.certificates.certificates
