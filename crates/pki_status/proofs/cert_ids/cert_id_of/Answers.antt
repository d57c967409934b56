-- Goals of `cert_ids::cert_id_of`: the fields are those of the certificate.
use Rattle.std.proofs.Common.{◌≡◌, None, ap, ◌∙◌}
use Rattle.der_core.specs.Oid.Bound.{Bound}
use Rattle.x509_cert_reading.specs.Certificates.{issuer, tbs_issuer, tbs_serial}
use Rattle.x509_cert_reading.specs.CertificateViews.{certificate_plain}
use Rattle.x509_cert_reading.specs.Names.Names.{PlainName, name_octets}
use Rattle.x509_cert_reading.specs.Names.Views.{name_plain}
use Rattle.x509_cert_reading.specs.Parts.Views.{key_plain}
use Rattle.pki_status.specs.Hashes.{hash_by}
use Rattle.pki_status.proofs.IdentifiedLaws.{identified}
use Rattle.pki_status.proofs.cert_ids.cert_id_of.Goals as goal

pub returns-clause-identified : goal.returns-clause-identified
returns-clause-identified c =
    let named : name_plain c.issuer.result.now ≡ issuer (certificate_plain c.args.certificate.now) = c.issuer.ensures ∙ ap tbs_issuer c.tbs_certificate-signed.ensures in
    let octets = c.as_slice.ensures.value ∙ c.in_ok-name.ensures.octets.0 ∙ ap (λ (n : PlainName). name_octets Bound n) named in
    identified Bound (record { hash_algorithm = record { oid = _; parameters = None }; issuer_name_hash = _; issuer_key_hash = _; serial_number = _ }) (certificate_plain c.args.certificate.now) (key_plain c.args.issuer_key.now) c.args.function c.oid-oid.ensures
    (c.in_ok-issuer_name_hash.ensures.ok.1 ∙ c.in_ok-name_digest.ensures.digest ∙ ap (hash_by c.args.function) octets)
    (c.in_ok-issuer_key_hash.ensures.ok.1 ∙ c.in_ok-key_digest.ensures.digest ∙ ap (hash_by c.args.function) c.raw_bytes.ensures)
    (c.in_ok-serial_number.ensures ∙ c.serial_number.ensures ∙ ap tbs_serial c.tbs_certificate-signed.ensures)
