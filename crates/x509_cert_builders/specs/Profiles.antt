-- The extensions that the profiles add (RFC 5280 4.2; CA/Browser Forum, Baseline Requirements
-- 7.1.2).
use Rattle.std.specs.Prelude.{ℕ, ℤ, ◌+◌, ◌^◌, List, [], ◌∷◌, Bool, true, false, ◌&&◌, Option, Some}
use Rattle.std.specs.Prelude.{None, if◌then◌else◌}
use Rattle.x509_cert_certificates.specs.Oid.Bound.{Bound}
use Rattle.x509_cert_certificates.specs.Oid.Comparing.{owned_eq}
use Rattle.x509_cert_certificates.specs.Der.TagTypes.Tag.TheVariants as tags
use Rattle.x509_cert_certificates.specs.Der.Leaves.{named}
use Rattle.x509_cert_certificates.specs.Der.Shapes.{tagged, leaf, sequence, sequence_of}
use Rattle.x509_cert_certificates.specs.CertParts.ExtensionTypes.{id_ce}
use Rattle.x509_cert_extensions.specs.CertGeneralNames.KeyIdentifiers.{key_identifier}
use Rattle.x509_cert_extensions.specs.Making.{extension_of}
use Rattle.x509_cert_extensions.specs.NamedBits as bits
use Rattle.x509_cert_extensions.specs.NamedBits.{KeyUse, bit_of}
use Rattle.x509_cert_certificates.specs.CertParts.Grammar.{PublicKey, PlainExtension}
use Rattle.x509_cert_certificates.specs.CertParts.Grammar.{algorithm_arcs, key_algorithm}
use Rattle.x509_cert_certificates.specs.CertParts.Grammar.{object_identifier, octet_string}
use Rattle.x509_cert_extensions.specs.CertGeneralNames.GeneralNames.{authority_key_identifier_fields}
use Rattle.x509_cert_extensions.specs.PolicyTypes.Policies.{basic_constraints_fields}

-- AuthorityKeyIdentifier with only the key identifier of the issuer's key (RFC 5280 4.2.1.1).
abbrev pub authority_key_extension : PublicKey → PlainExtension
authority_key_extension k =
    extension_of (id_ce 35) false (sequence (authority_key_identifier_fields Bound))
    (Some (key_identifier k), (None, (None, tt)))

-- SubjectKeyIdentifier with the key identifier of the certified key (RFC 5280 4.2.1.2).
abbrev pub subject_key_extension : PublicKey → PlainExtension
subject_key_extension k = extension_of (id_ce 14) false octet_string (key_identifier k)

-- BasicConstraints (RFC 5280 4.2.1.9).
abbrev pub constraints_extension : Bool → Option ℤ → PlainExtension
constraints_extension ca path =
    extension_of (id_ce 19) true (sequence basic_constraints_fields) (ca, (path, tt))

-- KeyUsage (RFC 5280 4.2.1.3). The bits of the number are the usages.
abbrev pub usage_extension : ℕ → PlainExtension
usage_extension uses =
    extension_of (id_ce 15) true (tagged tags.BitString (leaf (named 9))) uses

-- digitalSignature (bit 0).
abbrev pub digital_signature : ℕ
digital_signature = 2 ^ 0

-- keyCertSign (bit 5) and cRLSign (bit 6).
abbrev pub cert_and_crl_sign : ℕ
cert_and_crl_sign = 2 ^ 5 + 2 ^ 6

-- The key usages of a CA. A CA that signs OCSP responses also has digitalSignature (7.1.2.10.7).
abbrev pub authority_uses : Bool → ℕ
authority_uses answers = if answers then cert_and_crl_sign + digital_signature
    else cert_and_crl_sign

-- The extensions of a root CA (7.1.2.1.2).
abbrev pub root_extensions : Bool → PublicKey → List PlainExtension
root_extensions answers key =
    authority_key_extension key ∷ constraints_extension true None
    ∷ usage_extension (authority_uses answers) ∷ subject_key_extension key ∷ []

-- The OIDs below id-kp (RFC 5280 4.2.1.12).
abbrev pub id_kp : ℕ → List ℕ
id_kp n = 1 ∷ 3 ∷ 6 ∷ 1 ∷ 5 ∷ 5 ∷ 7 ∷ 3 ∷ n ∷ []

-- serverAuth and, if `clients` is true, clientAuth (RFC 5280 4.2.1.12).
abbrev pub purposes : Bool → List (List ℕ)
purposes clients = if clients then id_kp 1 ∷ id_kp 2 ∷ [] else id_kp 1 ∷ []

-- ExtendedKeyUsage with these purposes (RFC 5280 4.2.1.12).
abbrev pub purposes_extension : Bool → PlainExtension
purposes_extension clients =
    extension_of (id_ce 37) false (sequence_of (object_identifier Bound)) (purposes clients)

-- The extensions of a subordinate CA (7.1.2.6.1).
abbrev pub subordinate_extensions : Bool → Bool → Option ℤ → PublicKey → PublicKey
    → List PlainExtension
subordinate_extensions answers clients path key issuer_key =
    authority_key_extension issuer_key
    ∷ constraints_extension true path
    ∷ usage_extension (authority_uses answers)
    ∷ subject_key_extension key
    ∷ purposes_extension clients
    ∷ []

-- rsaEncryption (RFC 3279 2.3.1) and id-ecPublicKey (RFC 5480 2.1.1).
abbrev pub rsa_encryption : List ℕ
rsa_encryption = 1 ∷ 2 ∷ 840 ∷ 113549 ∷ 1 ∷ 1 ∷ 1 ∷ []

abbrev pub elliptic_curve_key : List ℕ
elliptic_curve_key = 1 ∷ 2 ∷ 840 ∷ 10045 ∷ 2 ∷ 1 ∷ []

-- The algorithm of the key has these arcs.
abbrev pub is_of : List ℕ → PublicKey → Bool
is_of arcs k = owned_eq (algorithm_arcs (key_algorithm k)) arcs

-- The bit of a key usage if the condition holds, and otherwise 0.
abbrev pub use_where : Bool → KeyUse → ℕ
use_where stands u = if stands then 2 ^ bit_of u else 0

-- The key usages of a subscriber (7.1.2.7.11): digitalSignature and, if enabled, dataEncipherment
-- and keyEncipherment for an RSA key, and keyAgreement for an elliptic-curve key.
abbrev pub subscriber_uses : Bool → Bool → Bool → PublicKey → ℕ
subscriber_uses data_enciphered keys_enciphered agreement k =
    digital_signature
    + use_where (data_enciphered && is_of rsa_encryption k) bits.data_encipherment
    + use_where (keys_enciphered && is_of rsa_encryption k) bits.key_encipherment
    + use_where (agreement && is_of elliptic_curve_key k) bits.key_agreement

-- The extensions of a subscriber whose key has these usages (7.1.2.7.6).
abbrev pub subscriber_extensions : Bool → ℕ → PublicKey → List PlainExtension
subscriber_extensions clients uses issuer_key =
    authority_key_extension issuer_key ∷ purposes_extension clients
    ∷ constraints_extension false None ∷ usage_extension uses ∷ []
