-- The JSON text (RFC 8259) of what no rule of path validation, and no strict limit if they apply,
-- checks in a chain and in the trust anchors that have the name of its issuer.
use Rattle.std.specs.Prelude.{◌≡◌, ℕ, List, [], ◌∷◌, ◌++◌, codes, fold, Bool, true, false}
use Rattle.std.specs.Prelude.{if◌then◌else◌, Option, Some, None, slice_get}
use Rattle.std.specs.Option.{option_map, option_map_or}
use Rattle.std.proofs.Common.{inl, inr}
use Rattle.x509_cert_anchors.specs.Oid.Bound.{Bound}
use Rattle.x509_cert_anchors.specs.Anchors.{PlainAnchor as PlainChoice}
use Rattle.x509_cert_anchors.specs.CertCertificates.Certificates.{PlainCertificate, extensions_of}
use Rattle.x509_cert_anchors.specs.CertCertificates.Certificates.{issuer, subject, tbs_subject}
use Rattle.x509_cert_anchors.specs.CertNames.Names.{PlainName}
use Rattle.x509_cert_anchors.specs.CertParts.Grammar.{PlainExtension}
use Rattle.cert_desk_checking.specs.Anchors.{controls_name, info_controls}
use Rattle.cert_desk_rules.specs.Paths.{same_name}
use Rattle.cert_desk_rules.specs.Weighing.{is_ce}
use Rattle.cert_tool_limits.specs.declared.unjudged.Role.{Role}
use Rattle.cert_tool_limits.specs.declared.unjudged.Role.TheVariants as roles
use Rattle.cert_tool_limits.specs.AnchorRules.{anchor_extensions, anchor_tbs}
use Rattle.cert_tool_limits.specs.Choices.{AreChoices}
use Rattle.cert_tool_limits.specs.Limits.{needs_use}

-- The name of an extension on policies (RFC 5280 4.2.1.4, 4.2.1.5, 4.2.1.11, 4.2.1.14), which
-- neither a rule nor a limit checks.
abbrev pub policies_name : PlainExtension → Option (List ℕ)
policies_name e =
    if is_ce 32 e then Some (codes "certificatePolicies")
    else if is_ce 33 e then Some (codes "policyMappings")
    else if is_ce 36 e then Some (codes "policyConstraints")
    else if is_ce 54 e then Some (codes "inhibitAnyPolicy")
    else None

-- The name of an extension that no rule checks in any certificate: nameConstraints (4.2.1.10), or
-- an extension on policies.
abbrev pub never_judged : PlainExtension → Option (List ℕ)
never_judged e = if is_ce 30 e then Some (codes "nameConstraints") else policies_name e

-- The name of an extension that isn't checked in a certificate with this role. The rules check
-- keyUsage (4.2.1.3) only in issuers, and nothing but the name and the key in trust anchors, whose
-- basicConstraints (4.2.1.9) and extKeyUsage (4.2.1.12) have names here, too. The strict limits
-- check all of these but the policies and, for some key purposes, the keyUsage of the end entity.
abbrev pub unjudged_name : Role → PlainExtension → Option (List ℕ)
unjudged_name roles.Strict e = policies_name e
unjudged_name roles.StrictEndEntity e =
    if is_ce 15 e then Some (codes "keyUsage") else policies_name e
unjudged_name roles.Issuer e = never_judged e
unjudged_name roles.EndEntity e =
    if is_ce 15 e then Some (codes "keyUsage") else never_judged e
unjudged_name roles.TrustAnchor e =
    if is_ce 15 e then Some (codes "keyUsage")
    else if is_ce 19 e then Some (codes "basicConstraints")
    else if is_ce 37 e then Some (codes "extKeyUsage")
    else never_judged e

-- A JSON string of a name without characters that have to be escaped.
abbrev pub quoted : List ℕ → List ℕ
quoted name = codes "\"" ++ name ++ codes "\""

-- The elements of a JSON array so far, and one more.
abbrev pub and_item : List ℕ → List ℕ → List ℕ
and_item [] item = item
and_item (c ∷ items) item = (c ∷ items) ++ codes "," ++ item

-- The elements so far and, if there is a name, the name.
abbrev pub and_name : List ℕ → Option (List ℕ) → List ℕ
and_name items name = option_map_or (λ n. and_item items (quoted n)) name items

-- The elements so far and the names of those of the extensions that aren't checked.
abbrev pub and_names : Role → List ℕ → List PlainExtension → List ℕ
and_names role items es = fold (λ so_far e. and_name so_far (unjudged_name role e)) items es

-- The JSON array with these elements.
abbrev pub array : List ℕ → List ℕ
array items = codes "[" ++ items ++ codes "]"

-- The role of a certificate of a chain, which may be the last one, with or without strict limits,
-- for this key purpose. The strict limits check the keyUsage of the last one only for a purpose for
-- which RFC 5280 lists bits.
abbrev pub role_in : Bool → List ℕ → Bool → Role
role_in true purpose true = if needs_use purpose then roles.Strict else roles.StrictEndEntity
role_in true purpose false = roles.Strict
role_in false purpose true = roles.EndEntity
role_in false purpose false = roles.Issuer

-- What isn't checked in a certificate of a chain.
abbrev pub unjudged_in : Bool → List ℕ → Bool → PlainCertificate → List ℕ
unjudged_in strict purpose is_last c =
    array (and_names (role_in strict purpose is_last) [] (extensions_of c))

-- The elements so far and one array for each certificate. The last one is the end entity's.
abbrev pub and_certificates : Bool → List ℕ → List ℕ → List PlainCertificate → List ℕ
and_certificates strict purpose items [] = items
and_certificates strict purpose items (c ∷ []) =
    and_item items (unjudged_in strict purpose true c)
and_certificates strict purpose items (c ∷ d ∷ cs) =
    and_certificates strict purpose (and_item items (unjudged_in strict purpose false c)) (d ∷ cs)

-- What isn't checked in a trust anchor. Without strict limits, the validity period (4.1.2.5) comes
-- first, if the trust anchor is a certificate.
abbrev pub unjudged_in_anchor : Bool → PlainChoice → List ℕ
unjudged_in_anchor true a = array (and_names roles.Strict [] (anchor_extensions a))
unjudged_in_anchor false a = array (and_names roles.TrustAnchor
    (option_map_or (λ t. quoted (codes "validity")) (anchor_tbs a) []) (anchor_extensions a))

-- The name of a trust anchor, if it has one (RFC 5914 2).
abbrev pub anchor_name : PlainChoice → Option PlainName
anchor_name (inl c) = Some (subject c)
anchor_name (inr (inl t)) = Some (tbs_subject t)
anchor_name (inr (inr i)) = option_map controls_name (info_controls i)

-- The trust anchor has the name of the certificate's issuer.
abbrev pub has_name_of : PlainCertificate → PlainChoice → Bool
has_name_of c a = option_map_or (same_name Bound (issuer c)) (anchor_name a) false

-- The elements so far and one array for each trust anchor that has the name of the certificate's
-- issuer.
abbrev pub and_anchors : Bool → PlainCertificate → List ℕ → List PlainChoice → List ℕ
and_anchors strict c items anchors = fold
    (λ so_far a. if has_name_of c a then and_item so_far (unjudged_in_anchor strict a) else so_far)
    items anchors

-- The arrays of the trust anchors that have the name of the first certificate's issuer.
abbrev pub anchors_text : Bool → List PlainCertificate → List PlainChoice → List ℕ
anchors_text strict cs anchors =
    option_map_or (λ c. and_anchors strict c [] anchors) (slice_get cs 0) []

-- The member `unjudged` of a JSON object, with the elements of its two arrays.
abbrev pub unjudged_member : List ℕ → List ℕ → List ℕ
unjudged_member certificates anchors =
    codes ",\"unjudged\":{\"certificates\":[" ++ certificates ++ codes "],\"anchors\":["
    ++ anchors ++ codes "]}"

-- The member `unjudged` of a JSON object: an array for each certificate, and one for each trust
-- anchor that has the name of the first certificate's issuer.
abbrev pub unjudged_text : Bool → List ℕ → List PlainCertificate → List PlainChoice → List ℕ
unjudged_text strict purpose cs anchors =
    unjudged_member (and_certificates strict purpose [] cs) (anchors_text strict cs anchors)

-- The text is that member, for the trust anchors of a file.
abbrev pub IsUnjudgedText : Bool → List ℕ → List ℕ → List PlainCertificate → List ℕ → Type 0
IsUnjudgedText strict purpose octets cs text =
    (anchors : List PlainChoice) × AreChoices octets anchors
    × (text ≡ unjudged_text strict purpose cs anchors)
