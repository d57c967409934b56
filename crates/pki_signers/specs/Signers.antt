-- How a signed message and an OCSP response identify the certificate of a signer (RFC 5652 5.3; RFC
-- 6960 4.2.1).
use Rattle.std.specs.Prelude.{ℕ, ℤ, List, Bool, ◌&&◌, bytes_eq}
use Rattle.std.specs.List.{list_any}
use Rattle.sha1.specs.Sha1.{sha1}
use Rattle.der_core.specs.Heads.{tlv}
use Rattle.der_core.specs.TagTypes.Tag.TheVariants as tags
use Rattle.cert_desk_checking.specs.Der.Integers.{integer_octets}
use Rattle.cert_desk_checking.specs.CertCertificates.Certificates.{PlainCertificate, issuer}
use Rattle.cert_desk_checking.specs.CertCertificates.Certificates.{extensions_of, public_key}
use Rattle.cert_desk_checking.specs.CertCertificates.Certificates.{subject, tbs, tbs_serial}
use Rattle.cert_desk_checking.specs.CertCertificates.CertNames.Names.{PlainName}
use Rattle.cert_desk_checking.specs.CertParts.Grammar.{PlainExtension, extension_octets, key_bits}
use Rattle.cert_desk_checking.specs.DeskRules.Paths.{same_name}
use Rattle.cert_desk_checking.specs.DeskRules.Weighing.{is_ce}

-- The certificate has this issuer and this serial number, which identify it (RFC 5280 4.1.2.2).
abbrev pub has_issuer_and_serial : ℕ → PlainName → ℤ → PlainCertificate → Bool
has_issuer_and_serial bound name serial c =
    bytes_eq (integer_octets (tbs_serial (tbs c))) (integer_octets serial)
    && same_name bound (issuer c) name

-- The extension is a subjectKeyIdentifier with this key identifier (RFC 5280 4.2.1.2).
abbrev pub is_key_identifier : List ℕ → PlainExtension → Bool
is_key_identifier identifier e =
    is_ce 14 e && bytes_eq (extension_octets e) (tlv tags.OctetString identifier)

-- The certificate has a subjectKeyIdentifier with this key identifier.
abbrev pub has_key_identifier : List ℕ → PlainCertificate → Bool
has_key_identifier identifier c = list_any (is_key_identifier identifier) (extensions_of c)

-- The certificate has this subject.
abbrev pub has_subject : ℕ → PlainName → PlainCertificate → Bool
has_subject bound name c = same_name bound (subject c) name

-- The certificate's key has this SHA-1 digest, over the bytes of its bit string.
abbrev pub has_key_hash : List ℕ → PlainCertificate → Bool
has_key_hash hash c = bytes_eq hash (sha1 (key_bits (public_key c)).octets)
