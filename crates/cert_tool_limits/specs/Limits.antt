-- The limits beyond the rules of path validation: the host, the key usage of the end entity, name
-- constraints, the trust anchor, and the remaining validity.
use Rattle.std.specs.Prelude.{◌≡◌, ℕ, ◌+◌, ◌-◌, ◌*◌, ◌⊎◌, List, [], ◌∷◌, length, Bool, true}
use Rattle.std.specs.Prelude.{false, not}
use Rattle.std.specs.Prelude.{◌++◌, codes, ◌&&◌, ◌||◌, nat_le, if◌then◌else◌, Option, slice_get}
use Rattle.std.specs.List.{list_all, list_any}
use Rattle.std.specs.Option.{option_map_or}
use Rattle.std.proofs.Common.{inl, inr}
use Rattle.x509_cert_anchors.specs.Oid.Bound.{Bound}
use Rattle.x509_cert_anchors.specs.Der.Dates.{Civil}
use Rattle.x509_cert_anchors.specs.Der.Shapes.{Value}
use Rattle.x509_cert_anchors.specs.Anchors.{PlainAnchor as PlainChoice}
use Rattle.x509_cert_anchors.specs.CertCertificates.Certificates.{PlainCertificate, extensions_of}
use Rattle.x509_cert_anchors.specs.CertCertificates.Certificates.{not_after, tbs_not_after}
use Rattle.x509_cert_anchors.specs.CertGeneralNames.GeneralNames.{general_name}
use Rattle.x509_cert_anchors.specs.CertParts.Grammar.{PlainExtension, extension_octets}
use Rattle.x509_cert_anchors.specs.Types.Seconds.{unix_seconds}
use Rattle.x509_cert_extensions.specs.NamedBits.{KeyUse, bit_of, has_bit}
use Rattle.x509_cert_extensions.specs.NamedBits as uses_of
use Rattle.cert_desk_bundle.specs.Oid.Comparing.{owned_eq}
use Rattle.cert_desk_rules.specs.declared.rule.Rule.TheVariants as rules
use Rattle.cert_desk_rules.specs.Judging.{Answers, before_signature, rule_name}
use Rattle.cert_desk_rules.specs.Weighing.{Meaning, is_ce, key_usage_in, meaning_of, other_names}
use Rattle.cert_desk_rules.specs.Weighing.{subject_alt_name_in, uses}
use Rattle.cert_tool_hosts.specs.declared.host.Host.{Host}
use Rattle.cert_tool_hosts.specs.Hosts.{is_address_of, is_name_of}
use Rattle.cert_tool_limits.specs.declared.limit.Limit.{Limit}
use Rattle.cert_tool_limits.specs.declared.limit.Limit.TheVariants as limits
use Rattle.cert_tool_limits.specs.AnchorRules.{anchor_extensions, anchor_keeps, anchor_tbs}
use Rattle.cert_tool_limits.specs.AnchorRules.{issues_chain}

-- The name that is printed for a limit.
abbrev pub limit_name : Limit → List ℕ
limit_name limits.WrongHost = codes "WrongHost"
limit_name limits.WrongKeyUsage = codes "WrongKeyUsage"
limit_name limits.ConstrainedNames = codes "ConstrainedNames"
limit_name limits.AnchorConstrainedNames = codes "AnchorConstrainedNames"
limit_name (limits.Anchor rule) = codes "Anchor" ++ rule_name rule

-- The key purpose id-kp n (RFC 5280 4.2.1.12).
abbrev pub id_kp : ℕ → List ℕ
id_kp n = 1 ∷ 3 ∷ 6 ∷ 1 ∷ 5 ∷ 5 ∷ 7 ∷ 3 ∷ n ∷ []

-- The bits of keyUsage, as a number, have this one.
abbrev pub has_use : KeyUse → ℕ → Bool
has_use one set = has_bit (bit_of one) set

-- The bits of keyUsage are consistent with a key purpose if they have one of those that RFC 5280
-- 4.2.1.12 lists for it. For other purposes the RFC lists none, and any bits are consistent.
abbrev pub is_consistent : List ℕ → ℕ → Bool
is_consistent purpose set =
    if owned_eq purpose (id_kp 1) then has_use uses_of.digital_signature set
    || (has_use uses_of.key_encipherment set || has_use uses_of.key_agreement set)
    else if owned_eq purpose (id_kp 2) then has_use uses_of.digital_signature set
    || has_use uses_of.key_agreement set
    else if owned_eq purpose (id_kp 3) then has_use uses_of.digital_signature set
    else if owned_eq purpose (id_kp 4) then has_use uses_of.digital_signature set
    || (has_use uses_of.non_repudiation set
    || (has_use uses_of.key_encipherment set || has_use uses_of.key_agreement set))
    else if owned_eq purpose (id_kp 8) || owned_eq purpose (id_kp 9) then
    has_use uses_of.digital_signature set || has_use uses_of.non_repudiation set
    else true

-- RFC 5280 4.2.1.12 lists bits for the purpose, so keyUsage without bits isn't consistent with it.
abbrev pub needs_use : List ℕ → Bool
needs_use purpose = not (is_consistent purpose 0)

-- The decoded content of keyUsage is consistent with the purpose.
abbrev pub allows_as : List ℕ → Meaning → Bool
allows_as purpose (uses set) = is_consistent purpose set
allows_as purpose _ = false

-- The extension isn't keyUsage, or it is consistent with the purpose (4.2.1.3, 4.2.1.12).
abbrev pub allows : List ℕ → PlainExtension → Bool
allows purpose e =
    not (is_ce 15 e) || allows_as purpose (meaning_of uses (key_usage_in (extension_octets e)))

-- Each keyUsage of a certificate is consistent with the purpose.
abbrev pub allows_purpose : List ℕ → PlainCertificate → Bool
allows_purpose purpose c = list_all (allows purpose) (extensions_of c)

-- The name is a dNSName or an iPAddress of the host (RFC 9525 6.3, 6.4).
abbrev pub is_of_host : Host → Value (general_name 0) → Bool
is_of_host host (inl other) = false
is_of_host host (inr (inl mail)) = false
is_of_host host (inr (inr (inl name))) = is_name_of host name
is_of_host host (inr (inr (inr (inl directory)))) = false
is_of_host host (inr (inr (inr (inr (inl party))))) = false
is_of_host host (inr (inr (inr (inr (inr (inl resource)))))) = false
is_of_host host (inr (inr (inr (inr (inr (inr (inl octets))))))) = is_address_of host octets
is_of_host host (inr (inr (inr (inr (inr (inr (inr identifier))))))) = false

-- The decoded content of subjectAltName has a name of the host.
abbrev pub presents_as : Host → Meaning → Bool
presents_as host (other_names names) = list_any (is_of_host host) names
presents_as host _ = false

-- The extension is subjectAltName and has a name of the host (RFC 5280 4.2.1.6).
abbrev pub presents : Host → PlainExtension → Bool
presents host e = is_ce 17 e
    && presents_as host (meaning_of other_names (subject_alt_name_in Bound (extension_octets e)))

-- The certificate is issued for the host. The common name doesn't matter (RFC 9525 2).
abbrev pub is_for_host : Host → PlainCertificate → Bool
is_for_host host c = list_any (presents host) (extensions_of c)

-- One of the extensions is nameConstraints, id-ce 30 (RFC 5280 4.2.1.10), which no rule checks.
abbrev pub constrains_names : List PlainExtension → Bool
constrains_names es = list_any (is_ce 30) es

-- The trust anchor keeps the rules that `anchor_keeps` tests, and has no nameConstraints.
abbrev pub is_strict : ℕ → List ℕ → List PlainCertificate → PlainChoice → Bool
is_strict moment purpose cs a =
    list_all (λ rule. anchor_keeps rule moment purpose cs a) before_signature
    && not (constrains_names (anchor_extensions a))

-- The trust anchor issued the chain, keeps the rules that `anchor_keeps` tests, and has no
-- nameConstraints.
abbrev pub is_strict_issuer : Answers → ℕ → List ℕ → List PlainCertificate → PlainChoice → Bool
is_strict_issuer answers moment purpose cs a =
    issues_chain answers cs a && is_strict moment purpose cs a

-- The trust anchor breaks the limit.
abbrev pub breaks : Limit → ℕ → List ℕ → List PlainCertificate → PlainChoice → Bool
breaks (limits.Anchor rule) moment purpose cs a = not (anchor_keeps rule moment purpose cs a)
breaks limits.AnchorConstrainedNames moment purpose cs a = constrains_names (anchor_extensions a)
breaks limits.ConstrainedNames moment purpose cs a = false
breaks limits.WrongKeyUsage moment purpose cs a = false
breaks limits.WrongHost moment purpose cs a = false

-- A trust anchor that issued the chain breaks the limit; or none issued the chain, and the limit is
-- the rule on signatures.
abbrev pub IsBroken : Answers → ℕ → List ℕ → List PlainCertificate → List PlainChoice → Limit
    → Type 0
IsBroken answers moment purpose cs anchors limit =
    (list_any (λ a. issues_chain answers cs a && breaks limit moment purpose cs a) anchors ≡ true)
    ⊎ ((limit ≡ limits.Anchor rules.WrongSignature)
    × (list_any (issues_chain answers cs) anchors ≡ false))

-- The notAfter isn't later than this number of days after a time (RFC 5280 4.1.2.5).
abbrev pub ends_within : ℕ → ℕ → Civil → Bool
ends_within days moment last = nat_le (unix_seconds last) (moment + days * 86400)

-- A certificate ends within this number of days after a time.
abbrev pub certificate_ends : ℕ → ℕ → PlainCertificate → Bool
certificate_ends days moment c = ends_within days moment (not_after c)

-- A trust anchor ends within this number of days after a time. One that is only a key and a name
-- doesn't end.
abbrev pub anchor_ends : ℕ → ℕ → PlainChoice → Bool
anchor_ends days moment a =
    option_map_or (λ t. ends_within days moment (tbs_not_after t)) (anchor_tbs a) false

-- Each trust anchor that issued the chain ends within this number of days after a time.
abbrev pub anchors_end : Answers → ℕ → ℕ → List PlainCertificate → List PlainChoice → Bool
anchors_end answers days moment cs anchors =
    list_all (λ a. not (issues_chain answers cs a) || anchor_ends days moment a) anchors

-- This holds for the end-entity certificate, which is the last one of a chain.
abbrev pub of_last : (PlainCertificate → Bool) → List PlainCertificate → Bool
of_last test cs = option_map_or test (slice_get cs (length cs - 1)) false

-- This holds for the certificate at an index.
abbrev pub of_place : (PlainCertificate → Bool) → List PlainCertificate → ℕ → Bool
of_place test cs place = option_map_or test (slice_get cs place) false

-- The end-entity certificate is issued for the host, if one is given.
abbrev pub meets_host : Option Host → List PlainCertificate → Bool
meets_host host cs = option_map_or (λ h. of_last (is_for_host h) cs) host true

-- The chain breaks none of the limits other than the host.
abbrev pub meets_strict : Answers → ℕ → List ℕ → List PlainCertificate → List PlainChoice → Bool
meets_strict answers moment purpose cs anchors =
    of_last (allows_purpose purpose) cs
    && (not (list_any (λ c. constrains_names (extensions_of c)) cs)
    && list_any (is_strict_issuer answers moment purpose cs) anchors)

-- The chain breaks this limit at this index. The index for a trust anchor is that of the
-- certificate that it issued.
abbrev pub IsUnmet : Option Host → Answers → ℕ → List ℕ → List PlainCertificate
    → List PlainChoice → ℕ → Limit → Type 0
IsUnmet host answers moment purpose cs anchors place limits.WrongHost =
    (place ≡ length cs - 1) × (meets_host host cs ≡ false)
IsUnmet host answers moment purpose cs anchors place limits.WrongKeyUsage =
    (place ≡ length cs - 1) × (of_last (allows_purpose purpose) cs ≡ false)
IsUnmet host answers moment purpose cs anchors place limits.ConstrainedNames =
    of_place (λ c. constrains_names (extensions_of c)) cs place ≡ true
IsUnmet host answers moment purpose cs anchors place limit =
    (place ≡ 0) × IsBroken answers moment purpose cs anchors limit
