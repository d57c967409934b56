-- The four extensions that validation processes (RFC 5280 4.2.1.3, 4.2.1.6, 4.2.1.9, 4.2.1.12), and
-- what they mean for a chain.
use Rattle.std.specs.Prelude.{ℕ, List, [], ◌∷◌, Bool, true, false, Option, None}
use Rattle.std.specs.Prelude.{if◌then◌else◌, ◌&&◌, ◌||◌, length, nat_lt}
use Rattle.std.specs.Int.RustNames.{unsigned_abs}
use Rattle.std.specs.List.{list_any}
use Rattle.std.proofs.Common.{refl}
use Rattle.cert_desk_bundle.specs.Oid.Comparing.{owned_eq}
use Rattle.cert_desk_bundle.specs.Der.TagTypes.Tag.TheVariants as tags
use Rattle.cert_desk_bundle.specs.Der.Grammar.{plain_option}
use Rattle.cert_desk_bundle.specs.Der.Leaves.{named}
use Rattle.cert_desk_bundle.specs.Der.Shapes.{Shape, BodyValue, Value, leaf, sequence, sequence_of}
use Rattle.cert_desk_bundle.specs.Der.Shapes.{tagged}
use Rattle.cert_desk_bundle.specs.CertParts.ExtensionTypes.{id_ce}
use Rattle.x509_cert_extensions.specs.NamedBits.{has_bit}
use Rattle.cert_desk_bundle.specs.CertParts.Grammar.{PlainExtension, extension_arcs}
use Rattle.cert_desk_bundle.specs.CertParts.Grammar.{extension_octets}
use Rattle.cert_desk_bundle.specs.CertParts.Grammar.{object_identifier}
use Rattle.x509_cert_extensions.specs.PolicyTypes.Policies.{basic_constraints_fields}
use Rattle.x509_cert_extensions.specs.CertGeneralNames.GeneralNames.{general_name, general_names}
use Rattle.cert_desk_bundle.specs.Decoding.{Decoding, decodes_to, decodes_to_none}
use Rattle.cert_desk_bundle.proofs.Decodings.{decoding}

-- The encoding of `cA`. FALSE is the default, so it isn't encoded (X.690 11.5).
abbrev pub ca_octets : Bool → List ℕ
ca_octets true = 1 ∷ 1 ∷ 255 ∷ []
ca_octets false = []

-- What an extension means for a chain.
pub data Meaning : Type 0 where
  uses : ℕ → Meaning  -- keyUsage, a set of named bits
  other_names : List (Value (general_name 0)) → Meaning  -- subjectAltName
  constraints : Bool → Option ℕ → Meaning  -- cA and pathLenConstraint of basicConstraints
  purposes : List (List ℕ) → Meaning  -- the key purposes of extKeyUsage
  malformed : Meaning  -- an extension of one of these four kinds that can't be decoded
  unweighed : Meaning  -- an extension of any other kind, which isn't processed

-- The meaning of a basicConstraints that was decoded (RFC 5280 4.2.1.9).
abbrev pub constraints_of : BodyValue basic_constraints_fields → Meaning
constraints_of v = constraints v.0 (plain_option unsigned_abs v.1.0)

-- The result of decoding the content of a keyUsage. KeyUsage ::= BIT STRING { digitalSignature (0),
-- .. decipherOnly (8) } has nine named bits (RFC 5280 4.2.1.3).
pub key_usage_in : (octets : List ℕ) → Decoding (tagged tags.BitString (leaf (named 9))) octets
key_usage_in octets = decoding (tagged tags.BitString (leaf (named 9))) octets refl refl

-- The result of decoding the content of a subjectAltName. SubjectAltName ::= GeneralNames (RFC 5280
-- 4.2.1.6).
pub subject_alt_name_in : (bound : ℕ) (octets : List ℕ) → Decoding (general_names bound) octets
subject_alt_name_in bound octets = decoding (general_names bound) octets refl refl

-- The result of decoding the content of a basicConstraints (RFC 5280 4.2.1.9).
pub basic_constraints_in : (octets : List ℕ) → Decoding (sequence basic_constraints_fields) octets
basic_constraints_in octets = decoding (sequence basic_constraints_fields) octets refl refl

-- The result of decoding the content of an extKeyUsage. ExtKeyUsageSyntax ::= SEQUENCE OF
-- KeyPurposeId (RFC 5280 4.2.1.12).
pub extended_key_usage_in : (bound : ℕ) (octets : List ℕ)
    → Decoding (sequence_of (object_identifier bound)) octets
extended_key_usage_in bound octets = decoding (sequence_of (object_identifier bound)) octets refl
    refl

-- The meaning of an extension, given the result of decoding its content.
abbrev pub meaning_of : {s : Shape} {w : List ℕ} → (Value s → Meaning) → Decoding s w → Meaning
meaning_of says (decodes_to v encoding) = says v
meaning_of says (decodes_to_none none) = malformed

-- The extension's OID is id-ce n (RFC 5280 4.2.1).
abbrev pub is_ce : ℕ → PlainExtension → Bool
is_ce n e = owned_eq (extension_arcs e) (id_ce n)

-- The meaning of an extension, critical or not. Its OID decides how the content is decoded. The
-- bound on the arcs of OIDs only decides which contents are malformed.
abbrev pub weigh : ℕ → PlainExtension → Meaning
weigh bound e =
    if is_ce 15 e then meaning_of uses (key_usage_in (extension_octets e))
    else if is_ce 17 e then meaning_of other_names (subject_alt_name_in bound (extension_octets e))
    else if is_ce 19 e then meaning_of constraints_of (basic_constraints_in (extension_octets e))
    else if is_ce 37 e then meaning_of purposes (extended_key_usage_in bound (extension_octets e))
    else unweighed

-- Checking these extensions may allocate: a subjectAltName or an extKeyUsage is decoded, or more
-- than 16 extensions are compared.
abbrev pub may_take_memory : List PlainExtension → Bool
may_take_memory es = list_any (λ e. is_ce 17 e || is_ce 37 e) es || nat_lt 16 (length es)

-- The extension is of one of the four kinds, but can't be decoded.
abbrev pub is_malformed : Meaning → Bool
is_malformed malformed = true
is_malformed _ = false

-- The extension is of none of these kinds. It isn't processed, so it must not be critical (RFC 5280
-- 4.2).
abbrev pub is_unweighed : Meaning → Bool
is_unweighed unweighed = true
is_unweighed _ = false

-- anyExtendedKeyUsage ::= { extKeyUsage 0 } (RFC 5280 4.2.1.12).
abbrev pub any_purpose : List ℕ
any_purpose = 2 ∷ 5 ∷ 29 ∷ 37 ∷ 0 ∷ []

-- The extension allows the key purpose: it is an extKeyUsage that lists the purpose or
-- anyExtendedKeyUsage, or no extKeyUsage (RFC 5280 4.2.1.12).
abbrev pub serves : List ℕ → Meaning → Bool
serves purpose (purposes listed) =
    list_any (λ one. owned_eq one purpose || owned_eq one any_purpose) listed
serves purpose _ = true

-- The extension is a basicConstraints with cA, so the subject is a CA (RFC 5280 4.2.1.9).
abbrev pub is_authority : Meaning → Bool
is_authority (constraints ca path_length) = ca
is_authority _ = false

-- The extension allows the key to sign certificates: it is a keyUsage with keyCertSign (bit 5), or
-- no keyUsage (RFC 5280 4.2.1.3).
abbrev pub may_certify : Meaning → Bool
may_certify (uses set) = has_bit 5 set
may_certify _ = true

-- pathLenConstraint: the largest number of certificates that count and may follow (RFC 5280
-- 4.2.1.9).
abbrev pub path_length : Meaning → Option ℕ
path_length (constraints ca n) = n
path_length _ = None
