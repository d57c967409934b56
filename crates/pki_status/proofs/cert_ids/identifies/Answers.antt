-- Goals of `cert_ids::identifies`: the tests so far decide.
use Rattle.std.proofs.Common.{◌≡◌, List, ℕ, bytes_eq, sym, ap, ◌∙◌}
use Rattle.der_core.specs.Oid.Bound.{Bound}
use Rattle.x509_cert_reading.specs.Certificates.{issuer, tbs_issuer, tbs_serial}
use Rattle.x509_cert_reading.specs.CertificateViews.{certificate_plain}
use Rattle.x509_cert_reading.specs.Names.Names.{PlainName, name_octets}
use Rattle.x509_cert_reading.specs.Names.Views.{name_plain}
use Rattle.x509_cert_reading.specs.Parts.Views.{key_plain}
use Rattle.pki_status.specs.Hashes.{hash_by}
use Rattle.pki_status.specs.CertIds.{has_serial}
use Rattle.pki_status.proofs.IdentifiedLaws.{by_no_function, by_serial, by_key, by_name}
use Rattle.pki_status.proofs.cert_ids.identifies.Goals as goal

pub returns-in_default-clause-identified : goal.returns-in_default-clause-identified
returns-in_default-clause-identified c =
    sym (by_no_function Bound c.args.id.now (certificate_plain c.args.certificate.now) (key_plain c.args.issuer_key.now) (sym c.in_default.ensures))

pub returns-then-not-has_serial-clause-identified : goal.returns-then-not-has_serial-clause-identified
returns-then-not-has_serial-clause-identified c =
    let same = c.serial_number.ensures ∙ ap tbs_serial c.tbs_certificate-signed.ensures in
    sym (by_serial Bound c.args.id.now (certificate_plain c.args.certificate.now) (key_plain c.args.issuer_key.now) c.in-Some.function (sym c.in-Some.ensures)
    (ap (has_serial c.args.id.now) (sym same) ∙ sym c.has_serial.ensures ∙ c.if-not-has_serial.true))

pub returns-then-not-has_key_hash-clause-identified : goal.returns-then-not-has_key_hash-clause-identified
returns-then-not-has_key_hash-clause-identified c =
    sym (by_key Bound c.args.id.now (certificate_plain c.args.certificate.now) (key_plain c.args.issuer_key.now) c.in-Some.function (sym c.in-Some.ensures)
    (sym c.has_key_hash.ensures ∙ c.if-not-has_key_hash.true))

pub returns-clause-identified : goal.returns-clause-identified
returns-clause-identified c =
    let same = c.serial_number.ensures ∙ ap tbs_serial c.tbs_certificate-signed.ensures in
    let serial = ap (has_serial c.args.id.now) (sym same) ∙ sym c.has_serial.ensures ∙ c.if-not-has_serial.false in
    let keyed = sym c.has_key_hash.ensures ∙ c.if-not-has_key_hash.false in
    let named : name_plain c.issuer.result.now ≡ issuer (certificate_plain c.args.certificate.now) = c.issuer.ensures ∙ ap tbs_issuer c.tbs_certificate-signed.ensures in
    let octets = c.as_slice.ensures.value ∙ c.in_ok-name.ensures.octets.0 ∙ ap (λ (n : PlainName). name_octets Bound n) named in
    c.is_digest.ensures
    ∙ ap (λ (w : List ℕ). bytes_eq w (hash_by c.in-Some.function c.as_slice.result.now)) c.as_bytes.ensures
    ∙ ap (λ (w : List ℕ). bytes_eq c.args.id.now.issuer_name_hash (hash_by c.in-Some.function w)) octets
    ∙ sym (by_name Bound c.args.id.now (certificate_plain c.args.certificate.now) (key_plain c.args.issuer_key.now) c.in-Some.function (sym c.in-Some.ensures) serial keyed)
