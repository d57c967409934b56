-- The loop invariant of `signers::find_by_issuer_and_serial`: no certificate so far has the issuer and the
-- serial number.
use Rattle.std.proofs.Common.{◌≡◌, drop}
use Rattle.std.specs.List.{position, position_from}
use Rattle.cert_desk_checking.specs.Oid.Bound.{Bound}
use Rattle.cert_desk_checking.specs.CertCertificates.CertNames.Views.{name_plain}
use Rattle.pki_signers.specs.Signers.{has_issuer_and_serial}
use Rattle.pki_signers.proofs.signers.find_by_issuer_and_serial.Given as goal

abbrev pub invariant-loop-place : goal.invariant-loop-place
invariant-loop-place l = position_from (has_issuer_and_serial Bound (name_plain l.issuer) l.serial_number) l.place (drop l.place l.certificates.certificates) ≡ position (has_issuer_and_serial Bound (name_plain l.issuer) l.serial_number) l.certificates.certificates
