-- The types of extensions: the OID of each, and its criticality when it is added to a certificate
-- or a CRL (RFC 5280 4.2, 5.2, 5.3; RFC 3280 4.2.1.4; RFC 6962 3.3).
use Rattle.std.specs.Prelude.{◌≡◌, ℕ, List, [], ◌∷◌, Bool, true, false, ◌==◌, length}
use Rattle.x509_cert_parts.specs.Grammar.{PlainExtension}

-- A type of extension, with the name that its ASN.1 module uses.
pub data ExtensionType : Type 0 where
  authority_key_identifier subject_key_identifier key_usage : ExtensionType
  private_key_usage_period certificate_policies policy_mappings : ExtensionType
  subject_alt_name issuer_alt_name subject_directory_attributes : ExtensionType
  basic_constraints name_constraints policy_constraints extended_key_usage : ExtensionType
  crl_distribution_points inhibit_any_policy freshest_crl : ExtensionType
  authority_info_access subject_info_access : ExtensionType
  crl_number base_crl_number issuing_distribution_point crl_reason : ExtensionType
  signed_certificate_timestamps : ExtensionType

-- The criticality of a type: always, never, or only if the subject has no name.
pub data Marking : Type 0 where
  always never without_subject : Marking

-- The OIDs 2.5.29.n (id-ce, 4.2.1) and 1.3.6.1.5.5.7.1.n (id-pe, 4.2.2).
abbrev pub id_ce : ℕ → List ℕ
id_ce n = 2 ∷ 5 ∷ 29 ∷ n ∷ []

abbrev pub id_pe : ℕ → List ℕ
id_pe n = 1 ∷ 3 ∷ 6 ∷ 1 ∷ 5 ∷ 5 ∷ 7 ∷ 1 ∷ n ∷ []

-- The OID and the criticality of each type, with the section of RFC 5280 unless another document is
-- named.
abbrev pub row_of : ExtensionType → List ℕ × Marking
row_of authority_key_identifier = (id_ce 35, never)  -- 4.2.1.1
row_of subject_key_identifier = (id_ce 14, never)  -- 4.2.1.2
row_of key_usage = (id_ce 15, always)  -- 4.2.1.3
row_of certificate_policies = (id_ce 32, never)  -- 4.2.1.4
row_of private_key_usage_period = (id_ce 16, never)  -- RFC 3280 4.2.1.4
row_of policy_mappings = (id_ce 33, always)  -- 4.2.1.5
row_of subject_alt_name = (id_ce 17, without_subject)  -- 4.2.1.6
row_of issuer_alt_name = (id_ce 18, never)  -- 4.2.1.7
row_of subject_directory_attributes = (id_ce 9, never)  -- 4.2.1.8
row_of basic_constraints = (id_ce 19, always)  -- 4.2.1.9
row_of name_constraints = (id_ce 30, always)  -- 4.2.1.10
row_of policy_constraints = (id_ce 36, always)  -- 4.2.1.11
row_of extended_key_usage = (id_ce 37, never)  -- 4.2.1.12
row_of crl_distribution_points = (id_ce 31, never)  -- 4.2.1.13
row_of inhibit_any_policy = (id_ce 54, always)  -- 4.2.1.14
row_of freshest_crl = (id_ce 46, never)  -- 4.2.1.15
row_of authority_info_access = (id_pe 1, never)  -- 4.2.2.1
row_of subject_info_access = (id_pe 11, never)  -- 4.2.2.2
row_of crl_number = (id_ce 20, never)  -- 5.2.3
row_of base_crl_number = (id_ce 27, always)  -- 5.2.4
row_of issuing_distribution_point = (id_ce 28, always)  -- 5.2.5
row_of crl_reason = (id_ce 21, never)  -- 5.3.1
row_of signed_certificate_timestamps =
    (1 ∷ 3 ∷ 6 ∷ 1 ∷ 4 ∷ 1 ∷ 11129 ∷ 2 ∷ 4 ∷ 2 ∷ [], never)  -- RFC 6962 3.3

-- The OID of a type.
abbrev pub identifier_of : ExtensionType → List ℕ
identifier_of t = (row_of t).0

-- An extension with this criticality is critical in a certificate with this subject.
abbrev pub marks : {A : Type 0} → Marking → List A → Bool
marks always subject = true
marks never subject = false
marks without_subject subject = length subject == 0

-- An extension of the type is critical in a certificate with this subject.
abbrev pub is_marked : {A : Type 0} → ExtensionType → List A → Bool
is_marked t subject = marks (row_of t).1 subject

-- `arcs` is the OID of the type `t`, and `is_critical` is its criticality.
abbrev pub IsOfType : {V A : Type 0} → ExtensionType → List ℕ
    → (V → List A → List PlainExtension → Bool) → Type 0
IsOfType {V} {A} t arcs is_critical = (arcs ≡ identifier_of t)
    × ((x : V) (subject : List A) (others : List PlainExtension)
    → is_critical x subject others ≡ is_marked t subject)
