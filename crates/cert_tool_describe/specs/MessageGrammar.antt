-- The grammar of OCSP (RFC 6960 4), signed messages (RFC 5652), private keys (RFC 5958) and
-- timestamps (RFC 3161). Each shape depends on a bound on the arcs of OIDs.
use Rattle.std.specs.Prelude.{ℕ, List, [], ◌∷◌, true, None}
use Rattle.x509_cert_lists.specs.Der.TagTypes.Tag.TheVariants as tags
use Rattle.x509_cert_lists.specs.Der.Integers.{among, every}
use Rattle.x509_cert_lists.specs.Der.Leaves.{integer, octets, bits, null, utf8, named}
use Rattle.x509_cert_lists.specs.Der.Leaves.{generalized_time}
use Rattle.x509_cert_lists.specs.Der.Shapes.{Shape, Body, tagged, any, either, optional, defaulted}
use Rattle.x509_cert_lists.specs.Der.Shapes.{leaf, field, done, many, rising, sequence}
use Rattle.x509_cert_lists.specs.Der.Shapes.{sequence_of, strict_set_of, explicit}
use Rattle.x509_cert_lists.specs.Der.Tags.{context}
use Rattle.x509_cert_lists.specs.CertNames.Names.{name, attribute}
use Rattle.x509_cert_lists.specs.ListGrammar.{certificate_list}
use Rattle.x509_cert_certificates.specs.Certificates.{certificate}
use Rattle.x509_cert_extensions.specs.CertGeneralNames.GeneralNames.{general_name, inside}
use Rattle.cert_tool_lines.specs.CertParts.Grammar.{object_identifier, algorithm_identifier}
use Rattle.cert_tool_lines.specs.CertParts.Grammar.{bit_string, octet_string, serial_number}
use Rattle.cert_tool_lines.specs.CertParts.Grammar.{extension, extensions, false_by_default}
use Rattle.cert_tool_lines.specs.CertParts.Grammar.{implicit_leaf, whole_number}

-- INTEGER and ENUMERATED with these numbers only.
abbrev pub integer_among : List ℕ → Shape
integer_among numbers = tagged tags.Integer (leaf (integer (among numbers)))

abbrev pub enumerated_among : List ℕ → Shape
enumerated_among numbers = tagged tags.Enumerated (leaf (integer (among numbers)))

-- INTEGER and GeneralizedTime.
abbrev pub any_integer : Shape
any_integer = tagged tags.Integer (leaf (integer every))

abbrev pub general_time : Shape
general_time = tagged tags.GeneralizedTime (leaf generalized_time)

-- Version ::= INTEGER { v1(0) } (RFC 6960 4.1.1), and the field [0] EXPLICIT Version DEFAULT v1.
abbrev pub ocsp_version : Shape
ocsp_version = integer_among (0 ∷ [])

abbrev pub ocsp_version_field : Shape
ocsp_version_field = defaulted (explicit 0 ocsp_version) (160 ∷ 3 ∷ 2 ∷ 1 ∷ 0 ∷ [])

-- CertID ::= SEQUENCE { hashAlgorithm AlgorithmIdentifier, issuerNameHash OCTET STRING,
-- issuerKeyHash OCTET STRING, serialNumber CertificateSerialNumber } (RFC 6960 4.1.1).
abbrev pub cert_id_fields : ℕ → Body
cert_id_fields bound =
    field (algorithm_identifier bound)
    (field octet_string (field octet_string (field (serial_number None) done)))

-- Request ::= SEQUENCE { reqCert CertID, singleRequestExtensions [0] EXPLICIT Extensions OPTIONAL }
-- (RFC 6960 4.1.1).
abbrev pub single_request_fields : ℕ → Body
single_request_fields bound =
    field (sequence (cert_id_fields bound))
    (field (optional (explicit 0 (extensions bound))) done)

-- TBSRequest ::= SEQUENCE { version [0] EXPLICIT Version DEFAULT v1, requestorName [1] EXPLICIT
-- GeneralName OPTIONAL, requestList SEQUENCE OF Request, requestExtensions [2] EXPLICIT Extensions
-- OPTIONAL } (RFC 6960 4.1.1).
abbrev pub tbs_request_fields : ℕ → Body
tbs_request_fields bound =
    field ocsp_version_field
    (field (optional (explicit 1 (general_name bound)))
    (field (sequence_of (sequence (single_request_fields bound)))
    (field (optional (explicit 2 (extensions bound))) done)))

-- The field certs [0] EXPLICIT SEQUENCE OF Certificate OPTIONAL (RFC 6960 4.1.1, 4.2.1).
abbrev pub certs_field : ℕ → Shape
certs_field bound = optional (explicit 0 (sequence_of (certificate bound None)))

-- Signature ::= SEQUENCE { signatureAlgorithm AlgorithmIdentifier, signature BIT STRING, certs [0]
-- EXPLICIT SEQUENCE OF Certificate OPTIONAL } (RFC 6960 4.1.1).
abbrev pub ocsp_signature_fields : ℕ → Body
ocsp_signature_fields bound =
    field (algorithm_identifier bound) (field bit_string (field (certs_field bound) done))

-- OCSPRequest ::= SEQUENCE { tbsRequest TBSRequest, optionalSignature [0] EXPLICIT Signature
-- OPTIONAL } (RFC 6960 4.1.1).
abbrev pub ocsp_request_fields : ℕ → Body
ocsp_request_fields bound =
    field (sequence (tbs_request_fields bound))
    (field (optional (explicit 0 (sequence (ocsp_signature_fields bound)))) done)

-- ResponseBytes ::= SEQUENCE { responseType OBJECT IDENTIFIER, response OCTET STRING }
-- (RFC 6960 4.2.1).
abbrev pub response_bytes_fields : ℕ → Body
response_bytes_fields bound = field (object_identifier bound) (field octet_string done)

-- OCSPResponse ::= SEQUENCE { responseStatus OCSPResponseStatus, responseBytes [0] EXPLICIT
-- ResponseBytes OPTIONAL }, where OCSPResponseStatus ::= ENUMERATED { successful (0),
-- malformedRequest (1), internalError (2), tryLater (3), sigRequired (5), unauthorized (6) }
-- (RFC 6960 4.2.1).
abbrev pub ocsp_response_fields : ℕ → Body
ocsp_response_fields bound =
    field (enumerated_among (0 ∷ 1 ∷ 2 ∷ 3 ∷ 5 ∷ 6 ∷ []))
    (field (optional (explicit 0 (sequence (response_bytes_fields bound)))) done)

-- ContentInfo ::= SEQUENCE { contentType OBJECT IDENTIFIER, content [0] EXPLICIT ANY DEFINED BY
-- contentType } (RFC 5652 3).
abbrev pub content_info_fields : ℕ → Body
content_info_fields bound = field (object_identifier bound) (field (explicit 0 any) done)

-- OneAsymmetricKey ::= SEQUENCE { version INTEGER { v1(0), v2(1) }, privateKeyAlgorithm
-- AlgorithmIdentifier, privateKey OCTET STRING, attributes [0] IMPLICIT SET OF Attribute OPTIONAL,
-- publicKey [1] IMPLICIT BIT STRING OPTIONAL } (RFC 5958 2).
abbrev pub one_asymmetric_key_fields : ℕ → Body
one_asymmetric_key_fields bound =
    field (integer_among (0 ∷ 1 ∷ []))
    (field (algorithm_identifier bound)
    (field octet_string
    (field (optional (inside 0 (rising (attribute bound))))
    (field (optional (implicit_leaf 1 bits)) done))))

-- EncryptedPrivateKeyInfo ::= SEQUENCE { encryptionAlgorithm AlgorithmIdentifier, encryptedData
-- OCTET STRING } (RFC 5958 3).
abbrev pub encrypted_private_key_info_fields : ℕ → Body
encrypted_private_key_info_fields bound =
    field (algorithm_identifier bound) (field octet_string done)

-- PKIFreeText ::= SEQUENCE OF UTF8String (RFC 4210 5.1.1).
abbrev pub free_text : Shape
free_text = sequence_of (tagged tags.Utf8String (leaf utf8))

-- PKIStatusInfo ::= SEQUENCE { status PKIStatus, statusString PKIFreeText OPTIONAL, failInfo
-- PKIFailureInfo OPTIONAL } (RFC 3161 2.4.2). PKIStatus has the numbers 0 to 5, and the last named
-- bit of PKIFailureInfo has the number 25.
abbrev pub status_info_fields : Body
status_info_fields =
    field (integer_among (0 ∷ 1 ∷ 2 ∷ 3 ∷ 4 ∷ 5 ∷ []))
    (field (optional free_text)
    (field (optional (tagged tags.BitString (leaf (named 26)))) done))

-- TimeStampResp ::= SEQUENCE { status PKIStatusInfo, timeStampToken ContentInfo OPTIONAL }
-- (RFC 3161 2.4.2).
abbrev pub time_stamp_resp_fields : ℕ → Body
time_stamp_resp_fields bound =
    field (sequence status_info_fields)
    (field (optional (sequence (content_info_fields bound))) done)

-- RevokedInfo ::= SEQUENCE { revocationTime GeneralizedTime, revocationReason [0] EXPLICIT
-- CRLReason OPTIONAL } (RFC 6960 4.2.1). CRLReason has the numbers 0 to 6 and 8 to 10 (RFC 5280
-- 5.3.1).
abbrev pub reason : Shape
reason = enumerated_among (0 ∷ 1 ∷ 2 ∷ 3 ∷ 4 ∷ 5 ∷ 6 ∷ 8 ∷ 9 ∷ 10 ∷ [])

abbrev pub revoked_info_fields : Body
revoked_info_fields = field general_time (field (optional (explicit 0 reason)) done)

-- CertStatus ::= CHOICE { good [0] IMPLICIT NULL, revoked [1] IMPLICIT RevokedInfo, unknown [2]
-- IMPLICIT NULL } (RFC 6960 4.2.1).
abbrev pub cert_status : Shape
cert_status =
    either (implicit_leaf 0 null) (either (inside 1 revoked_info_fields) (implicit_leaf 2 null))

-- SingleResponse ::= SEQUENCE { certID CertID, certStatus CertStatus, thisUpdate GeneralizedTime,
-- nextUpdate [0] EXPLICIT GeneralizedTime OPTIONAL, singleExtensions [1] EXPLICIT Extensions
-- OPTIONAL } (RFC 6960 4.2.1).
abbrev pub single_response_fields : ℕ → Body
single_response_fields bound =
    field (sequence (cert_id_fields bound))
    (field cert_status
    (field general_time
    (field (optional (explicit 0 general_time))
    (field (optional (explicit 1 (extensions bound))) done))))

-- ResponderID ::= CHOICE { byName [1] EXPLICIT Name, byKey [2] EXPLICIT OCTET STRING }
-- (RFC 6960 4.2.1).
abbrev pub responder_id : ℕ → Shape
responder_id bound = either (explicit 1 (name bound)) (explicit 2 octet_string)

-- ResponseData ::= SEQUENCE { version [0] EXPLICIT Version DEFAULT v1, responderID ResponderID,
-- producedAt GeneralizedTime, responses SEQUENCE OF SingleResponse, responseExtensions [1] EXPLICIT
-- Extensions OPTIONAL } (RFC 6960 4.2.1).
abbrev pub response_data_fields : ℕ → Body
response_data_fields bound =
    field ocsp_version_field
    (field (responder_id bound)
    (field general_time
    (field (sequence_of (sequence (single_response_fields bound)))
    (field (optional (explicit 1 (extensions bound))) done))))

-- BasicOCSPResponse ::= SEQUENCE { tbsResponseData ResponseData, signatureAlgorithm
-- AlgorithmIdentifier, signature BIT STRING, certs [0] EXPLICIT SEQUENCE OF Certificate OPTIONAL }
-- (RFC 6960 4.2.1).
abbrev pub basic_response_fields : ℕ → Body
basic_response_fields bound =
    field (sequence (response_data_fields bound)) (ocsp_signature_fields bound)

-- EncapsulatedContentInfo ::= SEQUENCE { eContentType OBJECT IDENTIFIER, eContent [0] EXPLICIT
-- OCTET STRING OPTIONAL } (RFC 5652 5.2).
abbrev pub encapsulated_fields : ℕ → Body
encapsulated_fields bound =
    field (object_identifier bound) (field (optional (explicit 0 octet_string)) done)

-- OtherCertificateFormat and OtherRevocationInfoFormat: an OBJECT IDENTIFIER, and a value of the
-- type that it defines (RFC 5652 10.2.1, 10.2.2).
abbrev pub other_format_fields : ℕ → Body
other_format_fields bound = field (object_identifier bound) (field any done)

-- CertificateChoices ::= CHOICE { certificate Certificate, extendedCertificate [0], v1AttrCert [1],
-- v2AttrCert [2], other [3] IMPLICIT OtherCertificateFormat } (RFC 5652 10.2.2). The contents of
-- [0], [1] and [2] aren't decoded.
abbrev pub undecoded : ℕ → Shape
undecoded n = tagged (context true n) (leaf octets)

abbrev pub certificate_choices : ℕ → Shape
certificate_choices bound =
    either (certificate bound None)
    (either (undecoded 0)
    (either (undecoded 1) (either (undecoded 2) (inside 3 (other_format_fields bound)))))

-- RevocationInfoChoice ::= CHOICE { crl CertificateList, other [1] IMPLICIT
-- OtherRevocationInfoFormat } (RFC 5652 10.2.1).
abbrev pub revocation_info_choice : ℕ → Shape
revocation_info_choice bound =
    either (certificate_list bound None) (inside 1 (other_format_fields bound))

-- IssuerAndSerialNumber ::= SEQUENCE { issuer Name, serialNumber CertificateSerialNumber }
-- (RFC 5652 10.2.4).
abbrev pub issuer_and_serial_fields : ℕ → Body
issuer_and_serial_fields bound = field (name bound) (field (serial_number None) done)

-- SignerIdentifier ::= CHOICE { issuerAndSerialNumber IssuerAndSerialNumber, subjectKeyIdentifier
-- [0] IMPLICIT OCTET STRING } (RFC 5652 5.3).
abbrev pub signer_identifier : ℕ → Shape
signer_identifier bound =
    either (sequence (issuer_and_serial_fields bound)) (implicit_leaf 0 octets)

-- CMSVersion ::= INTEGER { v0(0), .. v5(5) } (RFC 5652 10.2.5).
abbrev pub cms_version : Shape
cms_version = integer_among (0 ∷ 1 ∷ 2 ∷ 3 ∷ 4 ∷ 5 ∷ [])

-- SignerInfo ::= SEQUENCE { version CMSVersion, sid SignerIdentifier, digestAlgorithm
-- AlgorithmIdentifier, signedAttrs [0] IMPLICIT SET OF Attribute OPTIONAL, signatureAlgorithm
-- AlgorithmIdentifier, signature OCTET STRING, unsignedAttrs [1] IMPLICIT SET OF Attribute OPTIONAL
-- } (RFC 5652 5.3). Both sets have at least one attribute, SIZE (1..MAX), as if DEFAULT {} stood in
-- place of OPTIONAL.
abbrev pub signer_info_fields : ℕ → Body
signer_info_fields bound =
    field cms_version
    (field (signer_identifier bound)
    (field (algorithm_identifier bound)
    (field (defaulted (inside 0 (rising (attribute bound))) (160 ∷ 0 ∷ []))
    (field (algorithm_identifier bound)
    (field octet_string
    (field (defaulted (inside 1 (rising (attribute bound))) (161 ∷ 0 ∷ [])) done))))))

-- SignedData ::= SEQUENCE { version CMSVersion, digestAlgorithms SET OF AlgorithmIdentifier,
-- encapContentInfo EncapsulatedContentInfo, certificates [0] IMPLICIT SET OF CertificateChoices
-- OPTIONAL, crls [1] IMPLICIT SET OF RevocationInfoChoice OPTIONAL, signerInfos SET OF SignerInfo }
-- (RFC 5652 5.1).
abbrev pub signed_data_fields : ℕ → Body
signed_data_fields bound =
    field cms_version
    (field (strict_set_of (algorithm_identifier bound))
    (field (sequence (encapsulated_fields bound))
    (field (optional (inside 0 (rising (certificate_choices bound))))
    (field (optional (inside 1 (rising (revocation_info_choice bound))))
    (field (strict_set_of (sequence (signer_info_fields bound))) done)))))

-- MessageImprint ::= SEQUENCE { hashAlgorithm AlgorithmIdentifier, hashedMessage OCTET STRING }
-- (RFC 3161 2.4.1).
abbrev pub message_imprint_fields : ℕ → Body
message_imprint_fields bound = field (algorithm_identifier bound) (field octet_string done)

-- Accuracy ::= SEQUENCE { seconds INTEGER OPTIONAL, millis [0] IMPLICIT INTEGER OPTIONAL, micros
-- [1] IMPLICIT INTEGER OPTIONAL } (RFC 3161 2.4.2). The last two are below 2^16.
abbrev pub accuracy_fields : Body
accuracy_fields =
    field (optional any_integer)
    (field (optional (implicit_leaf 0 (whole_number 16)))
    (field (optional (implicit_leaf 1 (whole_number 16))) done))

-- TSTInfo ::= SEQUENCE { version INTEGER { v1(1) }, policy OBJECT IDENTIFIER, messageImprint
-- MessageImprint, serialNumber INTEGER, genTime GeneralizedTime, accuracy Accuracy OPTIONAL,
-- ordering BOOLEAN DEFAULT FALSE, nonce INTEGER OPTIONAL, tsa [0] EXPLICIT GeneralName OPTIONAL,
-- extensions [1] IMPLICIT Extensions OPTIONAL } (RFC 3161 2.4.2).
abbrev pub tst_info_fields : ℕ → Body
tst_info_fields bound =
    field (integer_among (1 ∷ []))
    (field (object_identifier bound)
    (field (sequence (message_imprint_fields bound))
    (field any_integer
    (field general_time
    (field (optional (sequence accuracy_fields))
    (field false_by_default
    (field (optional any_integer)
    (field (optional (explicit 0 (general_name bound)))
    (field (optional (inside 1 (many (extension bound)))) done)))))))))
