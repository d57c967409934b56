-- The grammar of certificates (RFC 5280 4.1). Each shape depends on a bound on the arcs of OIDs and
-- on the greatest number of content bytes of a serial number, if it is limited.
use Rattle.std.specs.Prelude.{ℕ, ℤ, List, [], length, Bool, Option, None}
use Rattle.std.specs.Option.{option_map_or}
use Rattle.der_core.specs.TagTypes.Tag.TheVariants as tags
use Rattle.der_core.specs.BitStrings.{Bits}
use Rattle.der_core.specs.Dates.{Civil}
use Rattle.der_core.specs.Heads.{head_octets}
use Rattle.der_core.specs.Leaves.{bits}
use Rattle.der_core.specs.Shapes.{Shape, Body, Value, BodyValue, optional}
use Rattle.der_core.specs.Shapes.{field, done, sequence, explicit, octets_of, body_octets}
use Rattle.x509_cert_names.specs.Names.{PlainName, name}
use Rattle.x509_cert_parts.specs.Grammar.{Algorithm, PublicKey, validity, extensions, civil_of}
use Rattle.x509_cert_parts.specs.Grammar.{PlainValidity, bit_string, version_field, serial_number}
use Rattle.x509_cert_parts.specs.Grammar.{implicit_leaf}
use Rattle.x509_cert_parts.specs.Grammar.{PlainExtension, algorithm_identifier, public_key_info}
use Rattle.x509_cert_parts.specs.Grammar as parts
use Rattle.x509_cert_parts.specs.Respelling.{validity_by}

-- TBSCertificate ::= SEQUENCE { version [0] EXPLICIT Version DEFAULT v1, serialNumber, signature,
-- issuer, validity, subject, subjectPublicKeyInfo, issuerUniqueID [1] IMPLICIT BIT STRING OPTIONAL,
-- subjectUniqueID [2] IMPLICIT BIT STRING OPTIONAL, extensions [3] EXPLICIT Extensions OPTIONAL }.
abbrev pub optional_fields : ℕ → Body
optional_fields bound = field (optional (implicit_leaf 1 bits))
    (field (optional (implicit_leaf 2 bits))
    (field (optional (explicit 3 (extensions bound))) done))

abbrev pub from_validity : ℕ → Body
from_validity bound =
    field validity (field (name bound) (field (public_key_info bound) (optional_fields bound)))

abbrev pub tbs_fields : ℕ → Option ℕ → Body
tbs_fields bound limit = field version_field (field (serial_number limit)
    (field (algorithm_identifier bound) (field (name bound) (from_validity bound))))

abbrev pub tbs_certificate : ℕ → Option ℕ → Shape
tbs_certificate bound limit = sequence (tbs_fields bound limit)

-- Certificate ::= SEQUENCE { tbsCertificate TBSCertificate, signatureAlgorithm AlgorithmIdentifier,
-- signatureValue BIT STRING }.
abbrev pub certificate_fields : ℕ → Option ℕ → Body
certificate_fields bound limit =
    field (tbs_certificate bound limit) (field (algorithm_identifier bound) (field bit_string done))

abbrev pub certificate : ℕ → Option ℕ → Shape
certificate bound limit = sequence (certificate_fields bound limit)

-- The shapes under `Raw`, which accepts serial numbers of any length.
abbrev pub raw_tbs_fields : ℕ → Body
raw_tbs_fields bound = tbs_fields bound None

abbrev pub raw_tbs_certificate : ℕ → Shape
raw_tbs_certificate bound = tbs_certificate bound None

abbrev pub raw_certificate_fields : ℕ → Body
raw_certificate_fields bound = certificate_fields bound None

abbrev pub raw_certificate : ℕ → Shape
raw_certificate bound = sequence (certificate_fields bound None)

-- The abstract values of these shapes. Neither the bound nor the profile changes their types.
abbrev pub Tbs : Type 0
Tbs = Value (tbs_certificate 0 None)

abbrev pub PlainCertificate : Type 0
PlainCertificate = Value (raw_certificate 0)

-- The fields of a TBSCertificate.
abbrev pub tbs_version : Tbs → ℤ
tbs_version t = t.0

abbrev pub tbs_serial : Tbs → ℤ
tbs_serial t = t.1.0

abbrev pub tbs_inner_algorithm : Tbs → Algorithm
tbs_inner_algorithm t = t.1.1.0

abbrev pub tbs_issuer : Tbs → PlainName
tbs_issuer t = t.1.1.1.0

abbrev pub tbs_validity : Tbs → PlainValidity
tbs_validity t = t.1.1.1.1.0

abbrev pub tbs_from_validity : Tbs → BodyValue (from_validity 0)
tbs_from_validity t = t.1.1.1.1

abbrev pub tbs_subject : Tbs → PlainName
tbs_subject t = t.1.1.1.1.1.0

abbrev pub tbs_public_key : Tbs → PublicKey
tbs_public_key t = t.1.1.1.1.1.1.0

abbrev pub tbs_issuer_unique_id : Tbs → Option Bits
tbs_issuer_unique_id t = t.1.1.1.1.1.1.1.0

abbrev pub tbs_subject_unique_id : Tbs → Option Bits
tbs_subject_unique_id t = t.1.1.1.1.1.1.1.1.0

abbrev pub tbs_extensions : Tbs → Option (List PlainExtension)
tbs_extensions t = t.1.1.1.1.1.1.1.1.1.0

-- The dates of a TBSCertificate, whatever their encoding.
abbrev pub tbs_not_before : Tbs → Civil
tbs_not_before t = civil_of (parts.not_before (tbs_validity t))

abbrev pub tbs_not_after : Tbs → Civil
tbs_not_after t = civil_of (parts.not_after (tbs_validity t))

-- The TBSCertificate of a certificate, and some of its fields.
abbrev pub tbs : PlainCertificate → Tbs
tbs c = c.0

-- The outer algorithm and the bits of the signature.
abbrev pub outer_algorithm : PlainCertificate → Algorithm
outer_algorithm c = c.1.0

abbrev pub signature_bits : PlainCertificate → Bits
signature_bits c = c.1.1.0

abbrev pub inner_algorithm : PlainCertificate → Algorithm
inner_algorithm c = tbs_inner_algorithm (tbs c)

abbrev pub issuer : PlainCertificate → PlainName
issuer c = tbs_issuer (tbs c)

abbrev pub not_before : PlainCertificate → Civil
not_before c = tbs_not_before (tbs c)

abbrev pub not_after : PlainCertificate → Civil
not_after c = tbs_not_after (tbs c)

abbrev pub subject : PlainCertificate → PlainName
subject c = tbs_subject (tbs c)

abbrev pub public_key : PlainCertificate → PublicKey
public_key c = tbs_public_key (tbs c)

-- The extensions of a certificate: none if the field is absent.
abbrev pub extensions_of : PlainCertificate → List PlainExtension
extensions_of c = option_map_or (λ es. es) (tbs_extensions (tbs c)) []

-- The encoding of a certificate, whatever its profile accepts.
abbrev pub certificate_octets : ℕ → PlainCertificate → List ℕ
certificate_octets bound c = octets_of (raw_certificate bound) c

-- The position of the TBSCertificate in the encoding (4.1.1.3): it follows the outer header.
unfoldable pub signed_start : ℕ → PlainCertificate → ℕ
signed_start bound c =
    length (head_octets tags.Sequence (length (body_octets (certificate_fields bound None) c)))

-- The length of the TBSCertificate's encoding in bytes.
unfoldable pub signed_length : ℕ → PlainCertificate → ℕ
signed_length bound c = length (octets_of (tbs_certificate bound None) c.0)

-- A TBSCertificate whose dates are re-encoded as RFC 5280 4.1.2.5 requires if `r` is true, and
-- otherwise unchanged; and a certificate with that TBSCertificate.
abbrev pub tbs_by : Bool → Tbs → Tbs
tbs_by r t = (t.0, (t.1.0, (t.1.1.0, (t.1.1.1.0, (validity_by r (tbs_validity t), t.1.1.1.1.1)))))

abbrev pub certificate_by : Bool → PlainCertificate → PlainCertificate
certificate_by r c = (tbs_by r (tbs c), c.1)
