-- The grammar of certificate policies, basic and policy constraints, and notices (RFC 5280 4.2).
-- Shapes with an OID depend on a bound on its arcs.
use Rattle.std.specs.Prelude.{ℕ}
use Rattle.der_core.specs.TagTypes.Tag.TheVariants as tags
use Rattle.der_core.specs.Integers.{natural}
use Rattle.der_core.specs.Leaves.{integer, generalized_time, text, utf8}
use Rattle.der_core.specs.Shapes.{Shape, Body, tagged, any, leaf, either, optional, field}
use Rattle.der_core.specs.Shapes.{done, sequence, sequence_of}
use Rattle.der_core.specs.Texts.{ascii}
use Rattle.x509_cert_parts.specs.Grammar.{object_identifier, false_by_default}
use Rattle.x509_cert_parts.specs.Grammar.{implicit_leaf, whole_number, number_of}

-- BasicConstraints ::= SEQUENCE { cA BOOLEAN DEFAULT FALSE, pathLenConstraint INTEGER (0..255)
-- OPTIONAL } (4.2.1.9).
abbrev pub basic_constraints_fields : Body
basic_constraints_fields = field false_by_default (field (optional (number_of 8)) done)

-- PolicyConstraints ::= SEQUENCE { requireExplicitPolicy [0] SkipCerts OPTIONAL,
-- inhibitPolicyMapping [1] SkipCerts OPTIONAL } (4.2.1.11), with numbers below 2^32.
abbrev pub policy_constraints_fields : Body
policy_constraints_fields =
    field (optional (implicit_leaf 0 (whole_number 32)))
    (field (optional (implicit_leaf 1 (whole_number 32))) done)

-- PolicyMapping ::= SEQUENCE { issuerDomainPolicy CertPolicyId, subjectDomainPolicy CertPolicyId }
-- (4.2.1.5).
abbrev pub policy_mapping_fields : ℕ → Body
policy_mapping_fields bound = field (object_identifier bound) (field (object_identifier bound) done)

-- PolicyQualifierInfo ::= SEQUENCE { policyQualifierId PolicyQualifierId, qualifier ANY OPTIONAL }
-- (4.2.1.4).
abbrev pub policy_qualifier_info_fields : ℕ → Body
policy_qualifier_info_fields bound = field (object_identifier bound) (field (optional any) done)

-- PolicyInformation ::= SEQUENCE { policyIdentifier CertPolicyId, policyQualifiers SEQUENCE OF
-- PolicyQualifierInfo OPTIONAL } (4.2.1.4).
abbrev pub policy_information_fields : ℕ → Body
policy_information_fields bound =
    field (object_identifier bound)
    (field (optional (sequence_of (sequence (policy_qualifier_info_fields bound)))) done)

-- DisplayText ::= CHOICE { ia5String IA5String, utf8String UTF8String } (4.2.1.4). VisibleString
-- and BMPString are rejected.
abbrev pub display_text : Shape
display_text =
    either (tagged tags.Ia5String (leaf (text ascii))) (tagged tags.Utf8String (leaf utf8))

-- NoticeReference ::= SEQUENCE { organization DisplayText, noticeNumbers SEQUENCE OF INTEGER
-- OPTIONAL } (4.2.1.4). The numbers aren't negative.
abbrev pub notice_reference_fields : Body
notice_reference_fields =
    field display_text
    (field (optional (sequence_of (tagged tags.Integer (leaf (integer natural))))) done)

-- UserNotice ::= SEQUENCE { noticeRef NoticeReference OPTIONAL, explicitText DisplayText OPTIONAL }
-- (4.2.1.4).
abbrev pub user_notice_fields : Body
user_notice_fields =
    field (optional (sequence notice_reference_fields)) (field (optional display_text) done)

-- PrivateKeyUsagePeriod ::= SEQUENCE { notBefore [0] GeneralizedTime OPTIONAL, notAfter [1]
-- GeneralizedTime OPTIONAL } (RFC 3280 4.2.1.4).
abbrev pub private_key_usage_period_fields : Body
private_key_usage_period_fields =
    field (optional (implicit_leaf 0 generalized_time))
    (field (optional (implicit_leaf 1 generalized_time)) done)
