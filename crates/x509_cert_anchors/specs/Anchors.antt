-- The grammar of trust anchors (RFC 5914 2). Each shape depends on a bound on the arcs of OIDs and
-- on the greatest number of content bytes of a serial number, if it is limited.
use Rattle.std.specs.Prelude.{ℕ, ◌^◌, List, [], ◌∷◌, Bool, Option, None, codes}
use Rattle.std.proofs.Common.{inl, inr}
use Rattle.der_core.specs.TagTypes.Tag.TheVariants as tags
use Rattle.der_core.specs.Grammar.{plain_option}
use Rattle.der_core.specs.Integers.{among}
use Rattle.der_core.specs.Leaves.{integer, utf8, named}
use Rattle.der_core.specs.Shapes.{Shape, Body, Value, BodyValue, tagged, leaf, either}
use Rattle.der_core.specs.Shapes.{optional, defaulted, field, done, many, sequence, explicit}
use Rattle.x509_cert_certificates.specs.Certificates.{certificate_fields, certificate}
use Rattle.x509_cert_certificates.specs.Certificates.{tbs_certificate, certificate_by, tbs_by}
use Rattle.x509_cert_general_names.specs.GeneralNames.{inside, name_constraints_fields}
use Rattle.x509_cert_policies.specs.CertParts.Grammar.{implicit_leaf, whole_number}
use Rattle.x509_cert_general_names.specs.CertNames.Names.{name}
use Rattle.x509_cert_policies.specs.CertParts.Grammar.{octet_string, public_key_info, extensions}
use Rattle.x509_cert_policies.specs.Policies.{policy_information_fields}

-- CertPolicyFlags ::= BIT STRING { inhibitPolicyMapping (0), requireExplicitPolicy (1),
-- inhibitAnyPolicy (2) } (2.5).
abbrev pub flag_count : ℕ
flag_count = 3

-- Each flag with its name and its bit.
abbrev pub policy_flags : List (List ℕ × ℕ)
policy_flags =
    (codes "InhibitPolicyMapping", 2 ^ 0)
    ∷ (codes "RequireExplicitPolicy", 2 ^ 1)
    ∷ (codes "InhibitAnyPolicy", 2 ^ 2)
    ∷ []

-- CertPathControls ::= SEQUENCE { taName Name, certificate [0] Certificate OPTIONAL, policySet [1]
-- CertificatePolicies OPTIONAL, policyFlags [2] CertPolicyFlags OPTIONAL, nameConstr [3]
-- NameConstraints OPTIONAL, pathLenConstraint [4] INTEGER (0..2^32 - 1) OPTIONAL } (2.5), with
-- implicit tags.
abbrev pub constraint_fields : ℕ → Body
constraint_fields bound =
    field (optional (inside 1 (many (sequence (policy_information_fields bound)))))
    (field (optional (implicit_leaf 2 (named flag_count)))
    (field (optional (inside 3 (name_constraints_fields bound)))
    (field (optional (implicit_leaf 4 (whole_number 32))) done)))

abbrev pub cert_path_controls_fields : ℕ → Option ℕ → Body
cert_path_controls_fields bound limit =
    field (name bound)
    (field (optional (inside 0 (certificate_fields bound limit))) (constraint_fields bound))

-- TrustAnchorInfoVersion ::= INTEGER { v1(1) } (2.1).
abbrev pub anchor_numbers : List ℕ
anchor_numbers = 1 ∷ []

abbrev pub anchor_version : Shape
anchor_version = tagged tags.Integer (leaf (integer (among anchor_numbers)))

-- The encoding of v1, which is rejected because v1 is the default (X.690 11.5).
abbrev pub first_anchor_version_octets : List ℕ
first_anchor_version_octets = 2 ∷ 1 ∷ 1 ∷ []

-- UTF8String.
abbrev pub utf8_string : Shape
utf8_string = tagged tags.Utf8String (leaf utf8)

-- TrustAnchorInfo ::= SEQUENCE { version TrustAnchorInfoVersion DEFAULT v1, pubKey
-- SubjectPublicKeyInfo, keyId OCTET STRING, taTitle UTF8String OPTIONAL, certPath CertPathControls
-- OPTIONAL, exts [1] EXPLICIT Extensions OPTIONAL, taTitleLangTag [2] UTF8String OPTIONAL } (2).
abbrev pub title_fields : ℕ → Option ℕ → Body
title_fields bound limit =
    field (optional utf8_string)
    (field (optional (sequence (cert_path_controls_fields bound limit)))
    (field (optional (explicit 1 (extensions bound)))
    (field (optional (implicit_leaf 2 utf8)) done)))

abbrev pub trust_anchor_info_fields : ℕ → Option ℕ → Body
trust_anchor_info_fields bound limit =
    field (defaulted anchor_version first_anchor_version_octets)
    (field (public_key_info bound) (field octet_string (title_fields bound limit)))

-- TrustAnchorChoice ::= CHOICE { certificate Certificate, tbsCert [1] EXPLICIT TBSCertificate,
-- taInfo [2] EXPLICIT TrustAnchorInfo } (2).
abbrev pub trust_anchor_choice : ℕ → Option ℕ → Shape
trust_anchor_choice bound limit =
    either (certificate bound limit)
    (either (explicit 1 (tbs_certificate bound limit))
    (explicit 2 (sequence (trust_anchor_info_fields bound limit))))

-- The abstract values of these shapes. Neither the bound nor the profile changes their types.
abbrev pub PlainControls : Type 0
PlainControls = BodyValue (cert_path_controls_fields 0 None)

abbrev pub PlainInfo : Type 0
PlainInfo = BodyValue (trust_anchor_info_fields 0 None)

abbrev pub PlainAnchor : Type 0
PlainAnchor = Value (trust_anchor_choice 0 None)

-- A trust anchor with the dates of its certificates re-encoded or unchanged.
abbrev pub cert_path_controls_by : Bool → PlainControls → PlainControls
cert_path_controls_by r c = (c.0, (plain_option (λ x. certificate_by r x) c.1.0, c.1.1))

abbrev pub trust_anchor_info_by : Bool → PlainInfo → PlainInfo
trust_anchor_info_by r t = (
  t.0,
  (
    t.1.0,
    (
      t.1.1.0,
      (t.1.1.1.0, (plain_option (λ c. cert_path_controls_by r c) t.1.1.1.1.0, t.1.1.1.1.1)),
    ),
  ),
)

abbrev pub trust_anchor_by : Bool → PlainAnchor → PlainAnchor
trust_anchor_by r (inl c) = inl (certificate_by r c)
trust_anchor_by r (inr (inl t)) = inr (inl (tbs_by r t))
trust_anchor_by r (inr (inr i)) = inr (inr (trust_anchor_info_by r i))
