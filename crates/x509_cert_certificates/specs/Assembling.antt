-- Building the TBSCertificate of a new certificate (RFC 5280 4.1.2).
use Rattle.std.specs.Prelude.{ℤ, pos, List, [], ◌∷◌, Bool, true, false, Option, Some, None}
use Rattle.std.specs.Prelude.{if◌then◌else◌}
use Rattle.x509_cert_names.specs.Names.{PlainName}
use Rattle.x509_cert_parts.specs.ExtensionSearch.{extensions_in_field}
use Rattle.x509_cert_parts.specs.Grammar.{Algorithm, PublicKey, PlainExtension, PlainValidity}
use Rattle.x509_cert_certificates.specs.Certificates.{Tbs, tbs_serial, tbs_issuer, tbs_validity}
use Rattle.x509_cert_certificates.specs.Certificates.{tbs_subject, tbs_public_key, tbs_extensions}

-- The fields of a certificate that are determined before it is signed, without its algorithm and
-- extensions.
pub record PlainFields : Type 0 where
  pub serial : ℤ
  pub issuer : PlainName
  pub validity : PlainValidity
  pub subject : PlainName
  pub key : PublicKey

-- These fields of a TBSCertificate.
abbrev pub fields_of : Tbs → PlainFields
fields_of t = record {
  serial = tbs_serial t;
  issuer = tbs_issuer t;
  validity = tbs_validity t;
  subject = tbs_subject t;
  key = tbs_public_key t;
}

-- The number of version 3 or of version 1 (4.1.2.1).
abbrev pub version_of : Bool → ℤ
version_of third = if third then pos 2 else pos 0

-- The TBSCertificate with these fields, a version, an algorithm and optional extensions, and
-- without unique identifiers (4.1.2.8).
abbrev pub tbs_of : Bool → PlainFields → Algorithm → Option (List PlainExtension) → Tbs
tbs_of third f a extensions = (
  version_of third,
  (
    f.serial,
    (a, (f.issuer, (f.validity, (f.subject, (f.key, (None, (None, (extensions, tt)))))))),
  ),
)

-- The TBSCertificate that a profile receives: version 3, without extensions.
abbrev pub bare_part : PlainFields → Algorithm → Tbs
bare_part f a = tbs_of true f a None

-- The list isn't empty.
abbrev pub has_any : List PlainExtension → Bool
has_any [] = false
has_any (e ∷ more) = true

-- The extensions, or None if there are none (4.1.2.9: SIZE (1..MAX)).
abbrev pub extensions_if_any : List PlainExtension → Option (List PlainExtension)
extensions_if_any [] = None
extensions_if_any (e ∷ more) = Some (e ∷ more)

-- The extensions of a TBSCertificate: none if the field is absent.
abbrev pub extensions_in : Tbs → List PlainExtension
extensions_in t = extensions_in_field (tbs_extensions t)

-- The TBSCertificate that is signed: version 3 if there are extensions, and version 1 otherwise
-- (4.1.2.1).
abbrev pub signed_part : PlainFields → Algorithm → List PlainExtension → Tbs
signed_part f a extensions = tbs_of (has_any extensions) f a (extensions_if_any extensions)
