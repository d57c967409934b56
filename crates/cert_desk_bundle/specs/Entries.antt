-- The entries of a bundle: references to its certificates.
use Rattle.std.specs.Prelude.{◌≡◌, ℕ, List, Some, slice_get}
use Rattle.x509_cert_certificates.specs.Der.Shapes.{octets_of, IsValid}
use Rattle.x509_cert_certificates.specs.Certificates.{PlainCertificate, certificate_octets}
use Rattle.x509_cert_certificates.specs.Certificates.{raw_certificate, raw_tbs_certificate, tbs}
use Rattle.x509_cert_certificates.specs.Views.{certificate_plain}
use Rattle.cert_desk_bundle.specs.declared.entry.Entry.{Entry}
use Rattle.cert_desk_bundle.specs.Chains.{offset_at}

-- The entry at an index: the certificate, its bytes, the bytes of its TBSCertificate, and its
-- offset.
pub record IsEntry (bound : ℕ) (cs : List PlainCertificate) (place : ℕ) (e : Entry) : Type 0 where
  pub certificate : slice_get cs place ≡ Some (certificate_plain e.certificate.now)
  pub valid : IsValid (raw_certificate bound) (certificate_plain e.certificate.now)
  pub octets : e.octets.now ≡ certificate_octets bound (certificate_plain e.certificate.now)
  pub signed : e.signed.now ≡ octets_of (raw_tbs_certificate bound)
      (tbs (certificate_plain e.certificate.now))
  pub offset : e.offset ≡ offset_at bound cs place
