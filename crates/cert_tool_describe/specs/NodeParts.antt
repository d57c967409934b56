-- The fields of values, as the decoder's shapes have them: the tag of each field, whether it is
-- optional, and what is inside it.
use Rattle.std.specs.Prelude.{ℕ, List, [], ◌∷◌, ◌++◌, Bool, true, false, Option, Some, None, codes}
use Rattle.std.specs.Borrow.{Bor}
use Rattle.x509_cert_lists.specs.Oid.Bound.{Bound}
use Rattle.x509_cert_lists.specs.Der.Shapes.{Shape, Content, Body, tagged, any, either, optional}
use Rattle.x509_cert_lists.specs.Der.Shapes.{defaulted, nothing, leaf, nested, done, field, only}
use Rattle.x509_cert_lists.specs.Der.Shapes.{many}
use Rattle.x509_cert_lists.specs.Der.Shapes.{exactly, few, in_order, rising, sequence, sequence_of}
use Rattle.x509_cert_lists.specs.Der.Tags.{leading_octet}
use Rattle.x509_cert_lists.specs.CertNames.Names.{name, type_and_value, attribute}
use Rattle.x509_cert_lists.specs.CertNames.Names.{directory_string}
use Rattle.x509_cert_lists.specs.CertNames.Names.{relative_name}
use Rattle.cert_tool_lines.specs.CertParts.Grammar.{object_identifier, algorithm_identifier}
use Rattle.cert_tool_lines.specs.CertParts.Grammar.{public_key_info, octet_string}
use Rattle.cert_tool_lines.specs.CertParts.Grammar.{version, validity, time, extension}
use Rattle.cert_tool_lines.specs.CertParts.Grammar.{extensions, number_of}
use Rattle.x509_cert_certificates.specs.Certificates.{certificate, tbs_certificate}
use Rattle.x509_cert_extensions.specs.CertGeneralNames.GeneralNames.{general_name, general_names}
use Rattle.x509_cert_extensions.specs.CertGeneralNames.GeneralNames.{other_name_fields}
use Rattle.x509_cert_extensions.specs.CertGeneralNames.GeneralNames.{edi_party_name_fields}
use Rattle.x509_cert_anchors.specs.CertGeneralNames.GeneralNames.{authority_key_identifier_fields}
use Rattle.x509_cert_extensions.specs.CertGeneralNames.GeneralNames.{general_subtree_fields}
use Rattle.x509_cert_extensions.specs.CertGeneralNames.GeneralNames.{name_constraints_fields}
use Rattle.x509_cert_extensions.specs.CertGeneralNames.GeneralNames.{distribution_point_name}
use Rattle.x509_cert_extensions.specs.CertGeneralNames.GeneralNames.{distribution_point_fields}
use Rattle.x509_cert_anchors.specs.CertGeneralNames.GeneralNames.{issuing_distribution_point_fields}
use Rattle.x509_cert_extensions.specs.CertGeneralNames.GeneralNames.{access_description_fields}
use Rattle.x509_cert_extensions.specs.PolicyTypes.Policies.{basic_constraints_fields}
use Rattle.x509_cert_extensions.specs.PolicyTypes.Policies.{policy_constraints_fields}
use Rattle.x509_cert_extensions.specs.PolicyTypes.Policies.{policy_mapping_fields}
use Rattle.x509_cert_extensions.specs.PolicyTypes.Policies.{policy_qualifier_info_fields}
use Rattle.x509_cert_extensions.specs.PolicyTypes.Policies.{policy_information_fields}
use Rattle.x509_cert_extensions.specs.PolicyTypes.Policies.{private_key_usage_period_fields}
use Rattle.x509_cert_lists.specs.ListGrammar.{revoked_cert_fields}
use Rattle.x509_cert_lists.specs.ListGrammar.{tbs_cert_list_fields}
use Rattle.x509_cert_lists.specs.ListGrammar.{certificate_list_fields}
use Rattle.x509_cert_lists.specs.ListGrammar.{cert_req_info_fields}
use Rattle.x509_cert_lists.specs.ListGrammar.{cert_req_fields}
use Rattle.x509_cert_anchors.specs.Anchors.{cert_path_controls_fields}
use Rattle.x509_cert_anchors.specs.Anchors.{trust_anchor_info_fields}
use Rattle.x509_cert_anchors.specs.Anchors.{trust_anchor_choice}
use Rattle.cert_tool_describe.specs.MessageGrammar.{ocsp_request_fields, tbs_request_fields}
use Rattle.cert_tool_describe.specs.MessageGrammar.{ocsp_version, single_request_fields}
use Rattle.cert_tool_describe.specs.MessageGrammar.{cert_id_fields, ocsp_signature_fields}
use Rattle.cert_tool_describe.specs.MessageGrammar.{ocsp_response_fields, response_bytes_fields}
use Rattle.cert_tool_describe.specs.MessageGrammar.{basic_response_fields, response_data_fields}
use Rattle.cert_tool_describe.specs.MessageGrammar.{responder_id, single_response_fields}
use Rattle.cert_tool_describe.specs.MessageGrammar.{cert_status, revoked_info_fields, reason}
use Rattle.cert_tool_describe.specs.MessageGrammar.{general_time, content_info_fields}
use Rattle.cert_tool_describe.specs.MessageGrammar.{signed_data_fields, encapsulated_fields}
use Rattle.cert_tool_describe.specs.MessageGrammar.{certificate_choices, other_format_fields}
use Rattle.cert_tool_describe.specs.MessageGrammar.{revocation_info_choice, signer_info_fields}
use Rattle.cert_tool_describe.specs.MessageGrammar.{signer_identifier, issuer_and_serial_fields}
use Rattle.cert_tool_describe.specs.MessageGrammar.{one_asymmetric_key_fields}
use Rattle.cert_tool_describe.specs.MessageGrammar.{encrypted_private_key_info_fields}
use Rattle.cert_tool_describe.specs.MessageGrammar.{time_stamp_resp_fields, status_info_fields}
use Rattle.cert_tool_describe.specs.MessageGrammar.{free_text, tst_info_fields}
use Rattle.cert_tool_describe.specs.MessageGrammar.{message_imprint_fields, accuracy_fields}
use Rattle.cert_tool_describe.specs.declared.parts.Node.{Node}
use Rattle.cert_tool_describe.specs.declared.parts.Node.TheVariants as nodes

-- What is inside a value: nothing with names, the fields of a body, or the alternatives of a
-- choice.
pub data Inside : Type 0 where
  no_parts : Inside
  values : Body → Inside
  choice : Shape → Shape → Inside

-- What is inside a content.
abbrev pub in_content : Content → Inside
in_content (leaf l) = no_parts
in_content (nested b) = values b

-- What is inside a value of this shape.
abbrev pub inside_of_shape : Shape → Inside
inside_of_shape (tagged t c) = in_content c
inside_of_shape any = no_parts
inside_of_shape (either a b) = choice a b
inside_of_shape (optional s) = inside_of_shape s
inside_of_shape (defaulted s d) = inside_of_shape s
inside_of_shape nothing = no_parts

-- The first byte of the tag, if the shape has a single one.
abbrev pub tag_of : Shape → Option ℕ
tag_of (tagged t c) = Some (leading_octet t)
tag_of any = None
tag_of (either a b) = None
tag_of (optional s) = tag_of s
tag_of (defaulted s d) = tag_of s
tag_of nothing = None

-- The shape has an encoding without bytes: it is optional or has a default.
abbrev pub may_be_left_out : Shape → Bool
may_be_left_out (tagged t c) = false
may_be_left_out any = false
may_be_left_out (either a b) = false
may_be_left_out (optional s) = true
may_be_left_out (defaulted s d) = true
may_be_left_out nothing = true

-- A field: its tag, whether it is optional, and what is inside it.
pub record PlainPart : Type 0 where
  pub tag : Option ℕ
  pub is_optional : Bool
  pub inside : Inside

-- The field of this shape.
abbrev pub part_of : Shape → PlainPart
part_of s = record { tag = tag_of s; is_optional = may_be_left_out s; inside = inside_of_shape s }

-- The alternatives of a choice.
abbrev pub cases_of : Shape → List PlainPart
cases_of (either a b) = cases_of a ++ cases_of b
cases_of (tagged t c) = part_of (tagged t c) ∷ []
cases_of any = part_of any ∷ []
cases_of (optional s) = part_of (optional s) ∷ []
cases_of (defaulted s d) = part_of (defaulted s d) ∷ []
cases_of nothing = []

-- The fields of a body, in order.
abbrev pub body_parts : Body → List PlainPart
body_parts done = []
body_parts (field s b) = part_of s ∷ body_parts b
body_parts (only s) = part_of s ∷ []
body_parts (many s) = part_of s ∷ []
body_parts (exactly n s) = part_of s ∷ []
body_parts (few n s) = part_of s ∷ []
body_parts (in_order how s) = part_of s ∷ []

-- The fields inside a value, in order; for a list, the field that each member is.
abbrev pub parts_in : Inside → List PlainPart
parts_in no_parts = []
parts_in (values b) = body_parts b
parts_in (choice a b) = cases_of a ++ cases_of b

-- The body is a list.
abbrev pub repeats : Body → Bool
repeats (many s) = true
repeats (in_order how s) = true
repeats _ = false

-- The value is a list.
abbrev pub is_many : Inside → Bool
is_many (values b) = repeats b
is_many _ = false

-- What is inside a value of each kind. No tag depends on the bound or on the profile.
abbrev pub inside_of : Node → Inside
inside_of nodes.Certificate = inside_of_shape (certificate Bound None)
inside_of nodes.TbsCertificate = inside_of_shape (tbs_certificate Bound None)
inside_of nodes.Version = values (only version)
inside_of nodes.Algorithm = inside_of_shape (algorithm_identifier Bound)
inside_of nodes.Name = inside_of_shape (name Bound)
inside_of nodes.RelativeName = inside_of_shape (relative_name Bound)
inside_of nodes.TypeAndValue = inside_of_shape (type_and_value Bound)
inside_of nodes.Validity = inside_of_shape validity
inside_of nodes.Time = inside_of_shape time
inside_of nodes.PublicKey = inside_of_shape (public_key_info Bound)
inside_of nodes.TaggedExtensions = values (only (extensions Bound))
inside_of nodes.Extensions = inside_of_shape (extensions Bound)
inside_of nodes.Extension = inside_of_shape (extension Bound)
inside_of nodes.List = values (certificate_list_fields Bound None)
inside_of nodes.TbsCertList = values (tbs_cert_list_fields Bound None)
inside_of nodes.RevokedCertificates = values (many (sequence (revoked_cert_fields Bound None)))
inside_of nodes.RevokedCertificate = values (revoked_cert_fields Bound None)
inside_of nodes.Request = values (cert_req_fields Bound)
inside_of nodes.RequestInfo = values (cert_req_info_fields Bound)
inside_of nodes.Attributes = values (rising (attribute Bound))
inside_of nodes.Attribute = inside_of_shape (attribute Bound)
inside_of nodes.AttributeValues = values (rising any)
inside_of nodes.Anchor = inside_of_shape (trust_anchor_choice Bound None)
inside_of nodes.TaggedTbsCertificate = values (only (tbs_certificate Bound None))
inside_of nodes.TaggedAnchorInfo = values (only (sequence (trust_anchor_info_fields Bound None)))
inside_of nodes.AnchorInfo = values (trust_anchor_info_fields Bound None)
inside_of nodes.PathControls = values (cert_path_controls_fields Bound None)
inside_of nodes.GeneralNames = inside_of_shape (general_names Bound)
inside_of nodes.GeneralName = inside_of_shape (general_name Bound)
inside_of nodes.OtherName = values (other_name_fields Bound)
inside_of nodes.TaggedValue = values (only any)
inside_of nodes.TaggedName = values (only (name Bound))
inside_of nodes.PartyName = values edi_party_name_fields
inside_of nodes.TaggedString = values (only directory_string)
inside_of nodes.DirectoryString = inside_of_shape directory_string
inside_of nodes.AuthorityKeyIdentifier = values (authority_key_identifier_fields Bound)
inside_of nodes.NameConstraints = values (name_constraints_fields Bound)
inside_of nodes.Subtrees = values (many (sequence (general_subtree_fields Bound)))
inside_of nodes.Subtree = values (general_subtree_fields Bound)
inside_of nodes.Points = values (many (sequence (distribution_point_fields Bound)))
inside_of nodes.Point = values (distribution_point_fields Bound)
inside_of nodes.TaggedPointName = values (only (distribution_point_name Bound))
inside_of nodes.PointName = inside_of_shape (distribution_point_name Bound)
inside_of nodes.IssuingPoint = values (issuing_distribution_point_fields Bound)
inside_of nodes.Accesses = values (many (sequence (access_description_fields Bound)))
inside_of nodes.Access = values (access_description_fields Bound)
inside_of nodes.BasicConstraints = values basic_constraints_fields
inside_of nodes.PolicyConstraints = values policy_constraints_fields
inside_of nodes.Mappings = values (many (sequence (policy_mapping_fields Bound)))
inside_of nodes.Mapping = values (policy_mapping_fields Bound)
inside_of nodes.Policies = values (many (sequence (policy_information_fields Bound)))
inside_of nodes.Policy = values (policy_information_fields Bound)
inside_of nodes.Qualifiers = values (many (sequence (policy_qualifier_info_fields Bound)))
inside_of nodes.Qualifier = values (policy_qualifier_info_fields Bound)
inside_of nodes.UsagePeriod = values private_key_usage_period_fields
inside_of nodes.Purposes = values (many (object_identifier Bound))
inside_of nodes.Features = values (many (number_of 16))
inside_of nodes.DirectoryAttributes = values (many (attribute Bound))
inside_of nodes.OcspRequest = values (ocsp_request_fields Bound)
inside_of nodes.TbsRequest = values (tbs_request_fields Bound)
inside_of nodes.OcspVersion = values (only ocsp_version)
inside_of nodes.TaggedGeneralName = values (only (general_name Bound))
inside_of nodes.SingleRequests = values (many (sequence (single_request_fields Bound)))
inside_of nodes.SingleRequest = values (single_request_fields Bound)
inside_of nodes.CertId = values (cert_id_fields Bound)
inside_of nodes.TaggedSignature = values (only (sequence (ocsp_signature_fields Bound)))
inside_of nodes.OcspSignature = values (ocsp_signature_fields Bound)
inside_of nodes.TaggedCertificates = values (only (sequence_of (certificate Bound None)))
inside_of nodes.Certificates = values (many (certificate Bound None))
inside_of nodes.OcspResponse = values (ocsp_response_fields Bound)
inside_of nodes.TaggedResponseBytes = values (only (sequence (response_bytes_fields Bound)))
inside_of nodes.ResponseBytes = values (response_bytes_fields Bound)
inside_of nodes.BasicResponse = values (basic_response_fields Bound)
inside_of nodes.ResponseData = values (response_data_fields Bound)
inside_of nodes.ResponderId = inside_of_shape (responder_id Bound)
inside_of nodes.TaggedOctets = values (only octet_string)
inside_of nodes.SingleResponses = values (many (sequence (single_response_fields Bound)))
inside_of nodes.SingleResponse = values (single_response_fields Bound)
inside_of nodes.CertStatus = inside_of_shape cert_status
inside_of nodes.RevokedInfo = values revoked_info_fields
inside_of nodes.TaggedReason = values (only reason)
inside_of nodes.TaggedDate = values (only general_time)
inside_of nodes.Message = values (content_info_fields Bound)
inside_of nodes.SignedData = values (signed_data_fields Bound)
inside_of nodes.Algorithms = values (rising (algorithm_identifier Bound))
inside_of nodes.EncapsulatedContent = values (encapsulated_fields Bound)
inside_of nodes.CertificateSet = values (rising (certificate_choices Bound))
inside_of nodes.CertificateChoice = inside_of_shape (certificate_choices Bound)
inside_of nodes.OtherFormat = values (other_format_fields Bound)
inside_of nodes.RevocationInfos = values (rising (revocation_info_choice Bound))
inside_of nodes.RevocationInfo = inside_of_shape (revocation_info_choice Bound)
inside_of nodes.SignerInfos = values (rising (sequence (signer_info_fields Bound)))
inside_of nodes.SignerInfo = values (signer_info_fields Bound)
inside_of nodes.SignerIdentifier = inside_of_shape (signer_identifier Bound)
inside_of nodes.IssuerAndSerial = values (issuer_and_serial_fields Bound)
inside_of nodes.Key = values (one_asymmetric_key_fields Bound)
inside_of nodes.EncryptedKey = values (encrypted_private_key_info_fields Bound)
inside_of nodes.Timestamp = values (time_stamp_resp_fields Bound)
inside_of nodes.StatusInfo = values status_info_fields
inside_of nodes.FreeText = inside_of_shape free_text
inside_of nodes.TimestampInfo = values (tst_info_fields Bound)
inside_of nodes.MessageImprint = values (message_imprint_fields Bound)
inside_of nodes.Accuracy = values accuracy_fields
inside_of nodes.Leaf = no_parts

-- The abstract value of the code's field.
abbrev pub part_plain : Option ℕ × Bool × Bor (List ℕ) × Node → PlainPart
part_plain p = record { tag = p.0; is_optional = p.1; inside = inside_of p.3 }

-- The names of the fields, in order; for a list, that of each member. The single field inside an
-- explicit tag has no name, nor have the alternatives of dates and texts.
abbrev pub names_of : Node → List (List ℕ)
names_of nodes.Certificate =
    codes "tbsCertificate" ∷ codes "signatureAlgorithm" ∷ codes "signatureValue" ∷ []
names_of nodes.TbsCertificate =
    codes "version" ∷ codes "serialNumber" ∷ codes "signature" ∷ codes "issuer" ∷ codes "validity"
    ∷ codes "subject" ∷ codes "subjectPublicKeyInfo" ∷ codes "issuerUniqueID"
    ∷ codes "subjectUniqueID" ∷ codes "extensions" ∷ []
names_of nodes.Version = codes "" ∷ []
names_of nodes.Algorithm = codes "algorithm" ∷ codes "parameters" ∷ []
names_of nodes.Name = codes "an RDN" ∷ []
names_of nodes.RelativeName = codes "an attribute" ∷ []
names_of nodes.TypeAndValue = codes "type" ∷ codes "value" ∷ []
names_of nodes.Validity = codes "notBefore" ∷ codes "notAfter" ∷ []
names_of nodes.Time = codes "" ∷ codes "" ∷ []
names_of nodes.PublicKey = codes "algorithm" ∷ codes "subjectPublicKey" ∷ []
names_of nodes.TaggedExtensions = codes "" ∷ []
names_of nodes.Extensions = codes "an extension" ∷ []
names_of nodes.Extension = codes "extnID" ∷ codes "critical" ∷ codes "extnValue" ∷ []
names_of nodes.List =
    codes "tbsCertList" ∷ codes "signatureAlgorithm" ∷ codes "signatureValue" ∷ []
names_of nodes.TbsCertList =
    codes "version" ∷ codes "signature" ∷ codes "issuer" ∷ codes "thisUpdate" ∷ codes "nextUpdate"
    ∷ codes "revokedCertificates" ∷ codes "crlExtensions" ∷ []
names_of nodes.RevokedCertificates = codes "an entry" ∷ []
names_of nodes.RevokedCertificate =
    codes "userCertificate" ∷ codes "revocationDate" ∷ codes "crlEntryExtensions" ∷ []
names_of nodes.Request =
    codes "certificationRequestInfo" ∷ codes "signatureAlgorithm" ∷ codes "signature" ∷ []
names_of nodes.RequestInfo =
    codes "version" ∷ codes "subject" ∷ codes "subjectPKInfo" ∷ codes "attributes" ∷ []
names_of nodes.Attributes = codes "an attribute" ∷ []
names_of nodes.Attribute = codes "type" ∷ codes "values" ∷ []
names_of nodes.AttributeValues = codes "a value" ∷ []
names_of nodes.Anchor = codes "certificate" ∷ codes "tbsCert" ∷ codes "taInfo" ∷ []
names_of nodes.TaggedTbsCertificate = codes "" ∷ []
names_of nodes.TaggedAnchorInfo = codes "" ∷ []
names_of nodes.AnchorInfo =
    codes "version" ∷ codes "pubKey" ∷ codes "keyId" ∷ codes "taTitle" ∷ codes "certPath"
    ∷ codes "exts" ∷ codes "taTitleLangTag" ∷ []
names_of nodes.PathControls =
    codes "taName" ∷ codes "certificate" ∷ codes "policySet" ∷ codes "policyFlags"
    ∷ codes "nameConstr" ∷ codes "pathLenConstraint" ∷ []
names_of nodes.GeneralNames = codes "a name" ∷ []
names_of nodes.GeneralName =
    codes "otherName" ∷ codes "rfc822Name" ∷ codes "dNSName" ∷ codes "directoryName"
    ∷ codes "ediPartyName" ∷ codes "uniformResourceIdentifier" ∷ codes "iPAddress"
    ∷ codes "registeredID" ∷ []
names_of nodes.OtherName = codes "type-id" ∷ codes "value" ∷ []
names_of nodes.TaggedValue = codes "" ∷ []
names_of nodes.TaggedName = codes "" ∷ []
names_of nodes.PartyName = codes "nameAssigner" ∷ codes "partyName" ∷ []
names_of nodes.TaggedString = codes "" ∷ []
names_of nodes.DirectoryString = codes "" ∷ codes "" ∷ codes "" ∷ codes "" ∷ []
names_of nodes.AuthorityKeyIdentifier =
    codes "keyIdentifier" ∷ codes "authorityCertIssuer" ∷ codes "authorityCertSerialNumber" ∷ []
names_of nodes.NameConstraints = codes "permittedSubtrees" ∷ codes "excludedSubtrees" ∷ []
names_of nodes.Subtrees = codes "a subtree" ∷ []
names_of nodes.Subtree = codes "base" ∷ codes "minimum" ∷ codes "maximum" ∷ []
names_of nodes.Points = codes "a point" ∷ []
names_of nodes.Point = codes "distributionPoint" ∷ codes "reasons" ∷ codes "cRLIssuer" ∷ []
names_of nodes.TaggedPointName = codes "" ∷ []
names_of nodes.PointName = codes "fullName" ∷ codes "nameRelativeToCRLIssuer" ∷ []
names_of nodes.IssuingPoint =
    codes "distributionPoint" ∷ codes "onlyContainsUserCerts" ∷ codes "onlyContainsCACerts"
    ∷ codes "onlySomeReasons" ∷ codes "indirectCRL" ∷ codes "onlyContainsAttributeCerts" ∷ []
names_of nodes.Accesses = codes "an access description" ∷ []
names_of nodes.Access = codes "accessMethod" ∷ codes "accessLocation" ∷ []
names_of nodes.BasicConstraints = codes "cA" ∷ codes "pathLenConstraint" ∷ []
names_of nodes.PolicyConstraints = codes "requireExplicitPolicy" ∷ codes "inhibitPolicyMapping" ∷ []
names_of nodes.Mappings = codes "a mapping" ∷ []
names_of nodes.Mapping = codes "issuerDomainPolicy" ∷ codes "subjectDomainPolicy" ∷ []
names_of nodes.Policies = codes "a policy" ∷ []
names_of nodes.Policy = codes "policyIdentifier" ∷ codes "policyQualifiers" ∷ []
names_of nodes.Qualifiers = codes "a qualifier" ∷ []
names_of nodes.Qualifier = codes "policyQualifierId" ∷ codes "qualifier" ∷ []
names_of nodes.UsagePeriod = codes "notBefore" ∷ codes "notAfter" ∷ []
names_of nodes.Purposes = codes "a key purpose" ∷ []
names_of nodes.Features = codes "a feature" ∷ []
names_of nodes.DirectoryAttributes = codes "an attribute" ∷ []
names_of nodes.OcspRequest = codes "tbsRequest" ∷ codes "optionalSignature" ∷ []
names_of nodes.TbsRequest =
    codes "version" ∷ codes "requestorName" ∷ codes "requestList" ∷ codes "requestExtensions" ∷ []
names_of nodes.OcspVersion = codes "" ∷ []
names_of nodes.TaggedGeneralName = codes "" ∷ []
names_of nodes.SingleRequests = codes "a request" ∷ []
names_of nodes.SingleRequest = codes "reqCert" ∷ codes "singleRequestExtensions" ∷ []
names_of nodes.CertId =
    codes "hashAlgorithm" ∷ codes "issuerNameHash" ∷ codes "issuerKeyHash" ∷ codes "serialNumber"
    ∷ []
names_of nodes.TaggedSignature = codes "" ∷ []
names_of nodes.OcspSignature = codes "signatureAlgorithm" ∷ codes "signature" ∷ codes "certs" ∷ []
names_of nodes.TaggedCertificates = codes "" ∷ []
names_of nodes.Certificates = codes "a certificate" ∷ []
names_of nodes.OcspResponse = codes "responseStatus" ∷ codes "responseBytes" ∷ []
names_of nodes.TaggedResponseBytes = codes "" ∷ []
names_of nodes.ResponseBytes = codes "responseType" ∷ codes "response" ∷ []
names_of nodes.BasicResponse =
    codes "tbsResponseData" ∷ codes "signatureAlgorithm" ∷ codes "signature" ∷ codes "certs" ∷ []
names_of nodes.ResponseData =
    codes "version" ∷ codes "responderID" ∷ codes "producedAt" ∷ codes "responses"
    ∷ codes "responseExtensions" ∷ []
names_of nodes.ResponderId = codes "byName" ∷ codes "byKey" ∷ []
names_of nodes.TaggedOctets = codes "" ∷ []
names_of nodes.SingleResponses = codes "a response" ∷ []
names_of nodes.SingleResponse =
    codes "certID" ∷ codes "certStatus" ∷ codes "thisUpdate" ∷ codes "nextUpdate"
    ∷ codes "singleExtensions" ∷ []
names_of nodes.CertStatus = codes "good" ∷ codes "revoked" ∷ codes "unknown" ∷ []
names_of nodes.RevokedInfo = codes "revocationTime" ∷ codes "revocationReason" ∷ []
names_of nodes.TaggedReason = codes "" ∷ []
names_of nodes.TaggedDate = codes "" ∷ []
names_of nodes.Message = codes "contentType" ∷ codes "content" ∷ []
names_of nodes.SignedData =
    codes "version" ∷ codes "digestAlgorithms" ∷ codes "encapContentInfo" ∷ codes "certificates"
    ∷ codes "crls" ∷ codes "signerInfos" ∷ []
names_of nodes.Algorithms = codes "an algorithm" ∷ []
names_of nodes.EncapsulatedContent = codes "eContentType" ∷ codes "eContent" ∷ []
names_of nodes.CertificateSet = codes "a certificate" ∷ []
names_of nodes.CertificateChoice =
    codes "certificate" ∷ codes "extendedCertificate" ∷ codes "v1AttrCert" ∷ codes "v2AttrCert"
    ∷ codes "other" ∷ []
names_of nodes.OtherFormat = codes "format" ∷ codes "value" ∷ []
names_of nodes.RevocationInfos = codes "a CRL" ∷ []
names_of nodes.RevocationInfo = codes "crl" ∷ codes "other" ∷ []
names_of nodes.SignerInfos = codes "a signer" ∷ []
names_of nodes.SignerInfo =
    codes "version" ∷ codes "sid" ∷ codes "digestAlgorithm" ∷ codes "signedAttrs"
    ∷ codes "signatureAlgorithm" ∷ codes "signature" ∷ codes "unsignedAttrs" ∷ []
names_of nodes.SignerIdentifier = codes "issuerAndSerialNumber" ∷ codes "subjectKeyIdentifier" ∷ []
names_of nodes.IssuerAndSerial = codes "issuer" ∷ codes "serialNumber" ∷ []
names_of nodes.Key =
    codes "version" ∷ codes "privateKeyAlgorithm" ∷ codes "privateKey" ∷ codes "attributes"
    ∷ codes "publicKey" ∷ []
names_of nodes.EncryptedKey = codes "encryptionAlgorithm" ∷ codes "encryptedData" ∷ []
names_of nodes.Timestamp = codes "status" ∷ codes "timeStampToken" ∷ []
names_of nodes.StatusInfo = codes "status" ∷ codes "statusString" ∷ codes "failInfo" ∷ []
names_of nodes.FreeText = codes "a text" ∷ []
names_of nodes.TimestampInfo =
    codes "version" ∷ codes "policy" ∷ codes "messageImprint" ∷ codes "serialNumber"
    ∷ codes "genTime" ∷ codes "accuracy" ∷ codes "ordering" ∷ codes "nonce" ∷ codes "tsa"
    ∷ codes "extensions" ∷ []
names_of nodes.MessageImprint = codes "hashAlgorithm" ∷ codes "hashedMessage" ∷ []
names_of nodes.Accuracy = codes "seconds" ∷ codes "millis" ∷ codes "micros" ∷ []
names_of nodes.Leaf = []
