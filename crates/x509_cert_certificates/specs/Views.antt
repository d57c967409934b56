-- The abstract value of each type of this crate, as a value of its shape in `Certificates`.
use Rattle.std.specs.Prelude.{pos}
use Rattle.der_core.specs.Grammar.{plain_option}
use Rattle.x509_cert_certificates.specs.Certificates.{Tbs, PlainCertificate}
use Rattle.x509_cert_certificates.specs.declared.certificate.CertificateInner.{CertificateInner}
use Rattle.x509_cert_certificates.specs.declared.tbs_certificate.TbsCertificateInner.{TbsCertificateInner}
use Rattle.x509_cert_names.specs.Views.{name_plain}
use Rattle.x509_cert_parts.specs.Views.{version_number, validity_plain, algorithm_plain, key_plain}
use Rattle.x509_cert_parts.specs.Views.{extensions_plain}

abbrev pub tbs_plain : {P : Type 0} → TbsCertificateInner P → Tbs
tbs_plain t = (
  pos (version_number t.version),
  (
    t.serial_number,
    (
      algorithm_plain t.signature,
      (
        name_plain t.issuer,
        (
          validity_plain t.validity,
          (
            name_plain t.subject,
            (
              key_plain t.subject_public_key_info,
              (
                t.issuer_unique_id,
                (
                  t.subject_unique_id,
                  (plain_option (λ e. extensions_plain e.items) t.extensions, tt),
                ),
              ),
            ),
          ),
        ),
      ),
    ),
  ),
)

abbrev pub certificate_plain : {P : Type 0} → CertificateInner P → PlainCertificate
certificate_plain c =
    (tbs_plain c.tbs_certificate, (algorithm_plain c.signature_algorithm, (c.signature, tt)))
