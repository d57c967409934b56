-- The signed part of a CRL that a builder makes (RFC 5280 5.1.2).
use Rattle.std.specs.Prelude.{◌≡◌, ◌⊎◌, ℕ, List, [], Bool, false, pos, Option, Some, None}
use Rattle.std.specs.Prelude.{Result, Ok, Err}
use Rattle.x509_cert_anchors.specs.Oid.Bound.{Bound}
use Rattle.x509_cert_anchors.specs.Der.ErrorTypes.ErrorKind.{ErrorKind}
use Rattle.x509_cert_anchors.specs.Der.TagTypes.Tag.TheVariants as tags
use Rattle.x509_cert_anchors.specs.Der.Integers.{natural}
use Rattle.x509_cert_anchors.specs.Der.Leaves.{integer}
use Rattle.x509_cert_anchors.specs.Der.Octets.{◌>>=◌}
use Rattle.x509_cert_anchors.specs.Der.Shapes.{Shape, BodyValue, tagged, leaf, optional}
use Rattle.x509_cert_anchors.specs.Der.Shapes.{sequence, sequence_of, explicit}
use Rattle.sha1.specs.Sha1.{sha1}
use Rattle.x509_cert_builders.specs.CertCertificates.Certificates.{Tbs, tbs_public_key}
use Rattle.x509_cert_builders.specs.CertCertificates.Certificates.{tbs_extensions}
use Rattle.x509_cert_lists.specs.ListGrammar.{revoked_cert_fields, tbs_cert_list_fields}
use Rattle.x509_cert_lists.specs.CertParts.ExtensionTypes as types
use Rattle.x509_cert_lists.specs.CertParts.ExtensionTypes.{id_ce, identifier_of}
use Rattle.x509_cert_lists.specs.CertParts.Grammar.{PlainExtension, PublicKey, key_bits, extensions}
use Rattle.x509_cert_lists.specs.CertParts.ExtensionSearch.{only_value, extensions_in_field}
use Rattle.x509_cert_anchors.specs.CertGeneralNames.GeneralNames.{authority_key_identifier_fields}
use Rattle.x509_cert_builders.specs.CertExtensions.Making.{extension_of}
use Rattle.x509_cert_builders.specs.Refusals.{HasNoEncoding}

-- The abstract value of an entry: a revoked certificate (5.1.2.6).
abbrev pub PlainEntry : Type 0
PlainEntry = BodyValue (revoked_cert_fields 0 None)

-- The abstract value of the signed part of a CRL.
abbrev pub PlainList : Type 0
PlainList = BodyValue (tbs_cert_list_fields 0 None)

-- TBSCertList (5.1.2), with at most `limit` content bytes in serial numbers, if they are limited.
abbrev pub list_part : Option ℕ → Shape
list_part limit = sequence (tbs_cert_list_fields Bound limit)

-- An entry with a serial number of any length, and the field that contains the entries.
abbrev pub raw_entry : Shape
raw_entry = sequence (revoked_cert_fields Bound None)

abbrev pub entries_field : Shape
entries_field = optional (sequence_of raw_entry)

-- The field that contains the extensions of a CRL.
abbrev pub extensions_field : Shape
extensions_field = optional (explicit 0 (extensions Bound))

-- The abstract value of AuthorityKeyIdentifier (4.2.1.1).
abbrev pub PlainAuthority : Type 0
PlainAuthority = BodyValue (authority_key_identifier_fields 0)

-- The shape of AuthorityKeyIdentifier (4.2.1.1).
abbrev pub authority_key : Shape
authority_key = sequence (authority_key_identifier_fields Bound)

-- The authority key identifier of a certificate or, if there is none, one with only the key
-- identifier of the key: the SHA-1 digest of its bytes (4.2.1.2).
abbrev pub given_or_made : PublicKey → Option (Bool × PlainAuthority) → PlainAuthority
given_or_made k None = (Some (sha1 (key_bits k).octets), (None, (None, tt)))
given_or_made k (Some found) = found.1

-- The authority key identifier for the CRLs of an issuer: a copy of the one in its certificate. Two
-- of them are rejected, and so is one whose content can't be decoded.
abbrev pub issuing_key : Tbs → Result PlainAuthority ErrorKind
issuing_key t =
    only_value authority_key (identifier_of types.authority_key_identifier)
    (extensions_in_field (tbs_extensions t))
    >>= λ (found : Option (Bool × PlainAuthority)). Ok (given_or_made (tbs_public_key t) found)

-- CRLNumber ::= INTEGER (0..MAX) (5.2.3).
abbrev pub crl_number : Shape
crl_number = tagged tags.Integer (leaf (integer natural))

-- The extension CRLNumber of a CRL (5.2.3).
abbrev pub number_extension : ℕ → PlainExtension
number_extension n = extension_of (id_ce 20) false crl_number (pos n)

-- The extension AuthorityKeyIdentifier of a CRL (5.2.1).
abbrev pub key_extension : PlainAuthority → PlainExtension
key_extension a = extension_of (id_ce 35) false authority_key a

-- The error if the extensions of a CRL can't be made: the issuer's authority key identifier is
-- rejected, or one of the two extensions has no encoding, for example because a length exceeds 2^32
-- - 1.
abbrev pub HasNoExtensions : ℕ → Result PlainAuthority ErrorKind → ErrorKind → Type 0
HasNoExtensions n (Err fault) kind = kind ≡ fault
HasNoExtensions n (Ok key) kind =
    HasNoEncoding crl_number (pos n) kind ⊎ HasNoEncoding authority_key key kind

-- The entries of a CRL: none if the field is absent.
abbrev pub entries : Option (List PlainEntry) → List PlainEntry
entries None = []
entries (Some es) = es
