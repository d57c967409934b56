-- The rules that each certificate of a chain has to keep (RFC 5280 6.1).
use Rattle.std.specs.Prelude.{ℕ, zero, suc, ◌+◌, List, [], ◌∷◌, ◌++◌, take, drop, Bool, true}
use Rattle.std.specs.Prelude.{false, not, nat_le, ◌&&◌, ◌||◌, bytes_eq, codes, slice_get}
use Rattle.std.specs.List.{list_any, list_all}
use Rattle.std.specs.Option.{option_map_or}
use Rattle.cert_desk_bundle.specs.Oid.Comparing.{owned_eq}
use Rattle.cert_desk_bundle.specs.Der.BitStrings.{Bits}
use Rattle.cert_desk_bundle.specs.Der.Shapes.{octets_of}
use Rattle.cert_desk_bundle.specs.CertCertificates.Certificates.{PlainCertificate, signed_start}
use Rattle.cert_desk_bundle.specs.CertCertificates.Certificates.{signed_length}
use Rattle.cert_desk_bundle.specs.CertParts.Grammar.{PlainExtension, PublicKey, Algorithm}
use Rattle.cert_desk_bundle.specs.CertParts.Grammar.{algorithm_identifier, extension_arcs}
use Rattle.cert_desk_bundle.specs.CertParts.Grammar.{is_critical}
use Rattle.cert_desk_bundle.specs.CertNames.Names.{PlainName}
use Rattle.cert_desk_bundle.specs.Types.Seconds.{unix_seconds}
use Rattle.cert_desk_rules.specs.declared.rule.Rule.{Rule}
use Rattle.cert_desk_rules.specs.declared.rule.Rule.TheVariants as rules
use Rattle.cert_desk_bundle.specs.Chains.{offset_at}
use Rattle.cert_desk_rules.specs.CertificateFields.{fields}
use Rattle.cert_desk_rules.specs.Paths.{is_last, is_within_lengths, same_name}
use Rattle.cert_desk_rules.specs.Weighing.{is_authority, is_malformed, is_unweighed}
use Rattle.cert_desk_rules.specs.Weighing.{may_certify, serves, weigh}

-- A trust anchor: a name and a key (RFC 5280 6.1.1 (d)).
pub record PlainAnchor : Type 0 where
  pub name : PlainName
  pub key : PublicKey

-- The signature verifier's answers, by key, algorithm, signed bytes and signature.
abbrev pub Answers : Type 0
Answers = PublicKey → Algorithm → List ℕ → Bits → Bool

-- The inputs of validation: the bound on the arcs of OIDs, the trust anchors, the validation time,
-- the key purpose and the signature verifier (RFC 5280 6.1.1).
pub record Terms : Type 0 where
  pub bound : ℕ
  pub anchors : List PlainAnchor
  pub moment : ℕ
  pub purpose : List ℕ
  pub answers : Answers

-- The fields signatureAlgorithm of the Certificate and signature of the TBSCertificate have the
-- same encoding (RFC 5280 4.1.1.2).
abbrev pub has_one_algorithm : ℕ → PlainCertificate → Bool
has_one_algorithm bound c = bytes_eq (octets_of (algorithm_identifier bound) (fields c).signature)
    (octets_of (algorithm_identifier bound) (fields c).signature_algorithm)

-- The encoding of the TBSCertificate of the certificate at an index, taken from the input (RFC 5280
-- 4.1.1.3).
abbrev pub signed_part : ℕ → List PlainCertificate → List ℕ → ℕ → PlainCertificate → List ℕ
signed_part bound cs stream place c =
    take (signed_length bound c) (drop (offset_at bound cs place + signed_start bound c) stream)

-- The verifier's answer for a certificate with these signed bytes, under a key.
abbrev pub accepted : Answers → List ℕ → PlainCertificate → PublicKey → Bool
accepted answers signed c key = answers key (fields c).signature_algorithm signed
    (fields c).signature_value

-- The trust anchor's name is the certificate's issuer.
abbrev pub is_named : ℕ → PlainCertificate → PlainAnchor → Bool
is_named bound c a = same_name bound (fields c).issuer a.name

-- Name chaining: the issuer is a trust anchor's name for the first certificate, and otherwise the
-- subject of the certificate before (RFC 5280 6.1.3 (a)(4)).
abbrev pub is_linked : Terms → List PlainCertificate → ℕ → PlainCertificate → Bool
is_linked t cs zero c = list_any (is_named t.bound c) t.anchors
is_linked t cs (suc before) c =
    option_map_or (λ b. same_name t.bound (fields c).issuer (fields b).subject)
    (slice_get cs before) false

-- The verifier accepts the signature under the key of a trust anchor with the issuer's name or,
-- after the first certificate, under the key of the certificate before (RFC 5280 6.1.3 (a)(1)).
abbrev pub is_signed : Terms → List PlainCertificate → List ℕ → ℕ → PlainCertificate → Bool
is_signed t cs stream zero c = list_any
    (λ a. is_named t.bound c a && accepted t.answers (signed_part t.bound cs stream 0 c) c a.key)
    t.anchors
is_signed t cs stream (suc before) c = option_map_or
    (λ b. accepted t.answers (signed_part t.bound cs stream (suc before) c) c (fields b).public_key)
    (slice_get cs before) false

-- No other extension has this one's OID.
abbrev pub is_alone : PlainExtension → List PlainExtension → Bool
is_alone e others =
    not (list_any (λ other. owned_eq (extension_arcs e) (extension_arcs other)) others)

-- No two extensions have the same OID (RFC 5280 4.2).
abbrev pub are_distinct : List PlainExtension → Bool
are_distinct [] = true
are_distinct (e ∷ others) = is_alone e others && are_distinct others

-- The extension at an index has the same OID as a later one.
abbrev pub has_twin : List PlainExtension → ℕ → Bool
has_twin [] place = false
has_twin (e ∷ others) zero = not (is_alone e others)
has_twin (e ∷ others) (suc place) = has_twin others place

-- The certificate is that of a CA whose key may sign certificates (RFC 5280 6.1.4 (k), (n)).
abbrev pub has_authority : ℕ → PlainCertificate → Bool
has_authority bound c = list_any (λ e. is_authority (weigh bound e)) (fields c).extensions
    && list_all (λ e. may_certify (weigh bound e)) (fields c).extensions

-- The certificate `c` at an index keeps a rule. The validity period is that of RFC 5280 6.1.3
-- (a)(2), and path lengths are those of 6.1.4 (l), (m). The sections of the other rules are named
-- at their definitions.
abbrev pub keeps : Rule → Terms → List PlainCertificate → List ℕ → ℕ → PlainCertificate → Bool
keeps rules.AlgorithmsDiffer t cs stream place c = has_one_algorithm t.bound c
keeps rules.DuplicateExtension t cs stream place c = are_distinct (fields c).extensions
keeps rules.MalformedExtension t cs stream place c =
    not (list_any (λ e. is_malformed (weigh t.bound e)) (fields c).extensions)
keeps rules.UnweighedCritical t cs stream place c =
    not (list_any (λ e. is_critical e && is_unweighed (weigh t.bound e)) (fields c).extensions)
keeps rules.WrongIssuer t cs stream place c = is_linked t cs place c
keeps rules.NotYetValid t cs stream place c = nat_le (unix_seconds (fields c).not_before) t.moment
keeps rules.Expired t cs stream place c = nat_le t.moment (unix_seconds (fields c).not_after)
keeps rules.AgainstPurpose t cs stream place c =
    list_all (λ e. serves t.purpose (weigh t.bound e)) (fields c).extensions
keeps rules.NotAuthority t cs stream place c = is_last cs place || has_authority t.bound c
keeps rules.PathTooLong t cs stream place c = is_within_lengths t.bound cs place
keeps rules.WrongSignature t cs stream place c = is_signed t cs stream place c

-- The certificate at an index keeps a rule. This is also true if there is no such certificate.
abbrev pub keeps_at : Rule → Terms → List PlainCertificate → List ℕ → ℕ → Bool
keeps_at rule t cs stream place = option_map_or (keeps rule t cs stream place) (slice_get cs place)
    true

-- The rules before that of the signature, in the order in which they are checked.
abbrev pub before_signature : List Rule
before_signature = rules.AlgorithmsDiffer ∷ rules.DuplicateExtension ∷ rules.MalformedExtension
    ∷ rules.UnweighedCritical ∷ rules.WrongIssuer ∷ rules.NotYetValid ∷ rules.Expired
    ∷ rules.AgainstPurpose ∷ rules.NotAuthority ∷ rules.PathTooLong ∷ []

-- All rules in that order. The signature is checked last, because only this check asks the
-- verifier.
abbrev pub in_order : List Rule
in_order = before_signature ++ rules.WrongSignature ∷ []

-- The verifier may be asked about the certificate at an index, because it keeps all rules before
-- that of the signature.
abbrev pub may_ask : Terms → List PlainCertificate → List ℕ → ℕ → Bool
may_ask t cs stream place = list_all (λ rule. keeps_at rule t cs stream place) before_signature

-- The number of a rule in that order, from 1.
abbrev pub number : Rule → ℕ
number rules.AlgorithmsDiffer = 1
number rules.DuplicateExtension = 2
number rules.MalformedExtension = 3
number rules.UnweighedCritical = 4
number rules.WrongIssuer = 5
number rules.NotYetValid = 6
number rules.Expired = 7
number rules.AgainstPurpose = 8
number rules.NotAuthority = 9
number rules.PathTooLong = 10
number rules.WrongSignature = 11

-- The word that is printed for a rule.
abbrev pub rule_name : Rule → List ℕ
rule_name rules.AlgorithmsDiffer = codes "AlgorithmsDiffer"
rule_name rules.DuplicateExtension = codes "DuplicateExtension"
rule_name rules.MalformedExtension = codes "MalformedExtension"
rule_name rules.UnweighedCritical = codes "UnweighedCritical"
rule_name rules.WrongIssuer = codes "WrongIssuer"
rule_name rules.NotYetValid = codes "NotYetValid"
rule_name rules.Expired = codes "Expired"
rule_name rules.AgainstPurpose = codes "AgainstPurpose"
rule_name rules.NotAuthority = codes "NotAuthority"
rule_name rules.PathTooLong = codes "PathTooLong"
rule_name rules.WrongSignature = codes "WrongSignature"
