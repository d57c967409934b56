-- The grammar of CRLs (RFC 5280 5.1) and CSRs (RFC 2986 4). Each shape depends on a bound on the
-- arcs of OIDs. Shapes with a serial number also depend on the greatest number of its content
-- bytes, if it is limited.
use Rattle.std.specs.Prelude.{ℕ, List, [], ◌∷◌, true, Option, None, Result, Ok}
use Rattle.der_core.specs.ErrorTypes.ErrorKind.{ErrorKind}
use Rattle.der_core.specs.TagTypes.Tag.TheVariants as tags
use Rattle.der_core.specs.Integers.{among}
use Rattle.der_core.specs.Leaves.{integer}
use Rattle.der_core.specs.Octets.{◌>>=◌}
use Rattle.der_core.specs.Shapes.{Shape, Body, BodyValue, Content, tagged, leaf, optional, field}
use Rattle.der_core.specs.Shapes.{done, many, rising, nested, sequence, sequence_of, explicit}
use Rattle.der_core.specs.Tags.{context}
use Rattle.x509_cert_parts.specs.Types.Contents.{written_as}
use Rattle.x509_cert_names.specs.Names.{PlainAttribute, name, attribute}
use Rattle.x509_cert_parts.specs.Grammar.{PlainExtension, bit_string, algorithm_identifier}
use Rattle.x509_cert_parts.specs.Grammar.{public_key_info, version, serial_number, time, extension}
use Rattle.x509_cert_parts.specs.Grammar.{extensions}

-- RevokedCert ::= SEQUENCE { userCertificate CertificateSerialNumber, revocationDate Time,
-- crlEntryExtensions Extensions OPTIONAL } (5.1.2.6).
abbrev pub revoked_cert_fields : ℕ → Option ℕ → Body
revoked_cert_fields bound limit =
    field (serial_number limit) (field time (field (optional (extensions bound)) done))

-- TBSCertList ::= SEQUENCE { version Version, signature AlgorithmIdentifier, issuer Name,
-- thisUpdate Time, nextUpdate Time OPTIONAL, revokedCertificates SEQUENCE OF RevokedCert OPTIONAL,
-- crlExtensions [0] EXPLICIT Extensions OPTIONAL } (5.1.2).
abbrev pub list_fields : ℕ → Option ℕ → Body
list_fields bound limit =
    field time
    (field (optional time)
    (field (optional (sequence_of (sequence (revoked_cert_fields bound limit))))
    (field (optional (explicit 0 (extensions bound))) done)))

abbrev pub tbs_cert_list_fields : ℕ → Option ℕ → Body
tbs_cert_list_fields bound limit =
    field version
    (field (algorithm_identifier bound) (field (name bound) (list_fields bound limit)))

-- CertificateList ::= SEQUENCE { tbsCertList TBSCertList, signatureAlgorithm AlgorithmIdentifier,
-- signatureValue BIT STRING } (5.1).
abbrev pub certificate_list_fields : ℕ → Option ℕ → Body
certificate_list_fields bound limit =
    field (sequence (tbs_cert_list_fields bound limit))
    (field (algorithm_identifier bound) (field bit_string done))

-- The shape of a CRL and its abstract value.
abbrev pub certificate_list : ℕ → Option ℕ → Shape
certificate_list bound limit = sequence (certificate_list_fields bound limit)

abbrev pub PlainList : Type 0
PlainList = BodyValue (certificate_list_fields 0 None)

-- The numbers of the versions of CSRs: INTEGER { v1(0) } (RFC 2986 4.1).
abbrev pub request_numbers : List ℕ
request_numbers = 0 ∷ []

-- CertificationRequestInfo ::= SEQUENCE { version INTEGER { v1(0) }, subject Name, subjectPKInfo
-- SubjectPublicKeyInfo, attributes [0] IMPLICIT SET OF Attribute } (RFC 2986 4.1).
abbrev pub cert_req_info_fields : ℕ → Body
cert_req_info_fields bound =
    field (tagged tags.Integer (leaf (integer (among request_numbers))))
    (field (name bound)
    (field (public_key_info bound)
    (field (tagged (context true 0) (nested (rising (attribute bound)))) done)))

-- CertificationRequest ::= SEQUENCE { certificationRequestInfo CertificationRequestInfo,
-- signatureAlgorithm AlgorithmIdentifier, signature BIT STRING } (RFC 2986 4.2).
abbrev pub cert_req_fields : ℕ → Body
cert_req_fields bound =
    field (sequence (cert_req_info_fields bound))
    (field (algorithm_identifier bound) (field bit_string done))

-- The shape of a CSR.
abbrev pub cert_req : ℕ → Shape
cert_req bound = sequence (cert_req_fields bound)

-- ExtensionReq ::= Extensions (RFC 2985 5.4.2).
abbrev pub extension_req_content : ℕ → Content
extension_req_content bound = nested (many (extension bound))

-- extensionRequest, 1.2.840.113549.1.9.14 (RFC 2985 5.4.2).
abbrev pub extension_req_arcs : List ℕ
extension_req_arcs = 1 ∷ 2 ∷ 840 ∷ 113549 ∷ 1 ∷ 9 ∷ 14 ∷ []

-- The attribute extensionRequest whose only value is the list of these extensions, if its encoding
-- has fewer than 2^32 bytes.
abbrev pub extension_req_attribute : ℕ → List PlainExtension → Result PlainAttribute ErrorKind
extension_req_attribute bound es = written_as tags.Sequence (extension_req_content bound) es
    >>= λ v. Ok (extension_req_arcs, (v ∷ [], tt))
