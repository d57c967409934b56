-- The loop invariant of `answers::find_answer`: the answers so far are about other certificates.
use Rattle.std.proofs.Common.{◌≡◌, drop, find}
use Rattle.der_core.specs.Oid.Bound.{Bound}
use Rattle.x509_cert_reading.specs.CertificateViews.{certificate_plain}
use Rattle.x509_cert_reading.specs.Parts.Views.{key_plain}
use Rattle.pki_status.specs.CertIds.{is_about}
use Rattle.pki_status.proofs.answers.find_answer.Given as goal

abbrev pub invariant-loop-answer : goal.invariant-loop-answer
invariant-loop-answer l = find (is_about Bound (certificate_plain l.certificate) (key_plain l.issuer_key)) (drop l.answer-index l.answers)
    ≡ find (is_about Bound (certificate_plain l.certificate) (key_plain l.issuer_key)) l.answers
