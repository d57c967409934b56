-- The TBSCertificate that a builder of certificates signs (RFC 5280 4.1.2).
use Rattle.std.specs.Prelude.{true}
use Rattle.x509_cert_certificates.specs.Oid.Bound.{Bound}
use Rattle.x509_cert_certificates.specs.Der.Ranges.{IsInRange}
use Rattle.x509_cert_certificates.specs.Der.Shapes.{Shape, explicit, optional}
use Rattle.x509_cert_certificates.specs.Certificates.{Tbs, raw_tbs_certificate, tbs_by}
use Rattle.x509_cert_certificates.specs.Certificates.{tbs_inner_algorithm, tbs_issuer, tbs_validity}
use Rattle.x509_cert_certificates.specs.Certificates.{tbs_subject, tbs_public_key, tbs_extensions}
use Rattle.x509_cert_certificates.specs.CertNames.Names.{name}
use Rattle.x509_cert_certificates.specs.CertParts.Grammar.{algorithm_identifier, extensions}
use Rattle.x509_cert_certificates.specs.CertParts.Grammar.{public_key_info}
use Rattle.x509_cert_certificates.specs.CertParts.Grammar.{validity}

-- The shape of a TBSCertificate with a serial number of any length.
abbrev pub part_shape : Shape
part_shape = raw_tbs_certificate Bound

-- The TBSCertificate with its dates as RFC 5280 4.1.2.5 requires.
abbrev pub written_part : Tbs → Tbs
written_part t = tbs_by true t

-- The field of a TBSCertificate that contains the extensions.
abbrev pub extensions_field : Shape
extensions_field = optional (explicit 3 (extensions Bound))

-- The fields of a TBSCertificate are in range. Nothing is claimed for the version, the serial
-- number and the unique identifiers.
pub record IsPartInRange (t : Tbs) : Type 0 where
  pub algorithm : IsInRange (algorithm_identifier Bound) (tbs_inner_algorithm t)
  pub issuer : IsInRange (name Bound) (tbs_issuer t)
  pub dates : IsInRange validity (tbs_validity t)
  pub subject : IsInRange (name Bound) (tbs_subject t)
  pub key : IsInRange (public_key_info Bound) (tbs_public_key t)
  pub extensions : IsInRange extensions_field (tbs_extensions t)
