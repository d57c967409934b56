-- The rules of certificates, applied to a trust anchor as the certificate before the first one of a
-- chain. Path validation only uses the name and the key of a trust anchor (RFC 5280 6.1.1 (d)).
use Rattle.std.specs.Prelude.{ℕ, List, [], length, Bool, true, not, ◌&&◌, ◌||◌, ◌==◌, Option}
use Rattle.std.specs.Prelude.{Some, None, false, nat_le, slice_get}
use Rattle.std.specs.List.{list_all, list_any}
use Rattle.std.specs.Option.{option_map_or}
use Rattle.std.proofs.Common.{inl, inr}
use Rattle.x509_cert_anchors.specs.Oid.Bound.{Bound}
use Rattle.x509_cert_anchors.specs.Anchors.{PlainAnchor as PlainChoice, PlainInfo}
use Rattle.x509_cert_anchors.specs.CertCertificates.Certificates.{PlainCertificate, Tbs}
use Rattle.x509_cert_anchors.specs.CertCertificates.Certificates.{extensions_of, issuer, public_key}
use Rattle.x509_cert_anchors.specs.CertCertificates.Certificates.{raw_tbs_certificate, subject, tbs}
use Rattle.x509_cert_anchors.specs.CertCertificates.Certificates.{tbs_extensions}
use Rattle.x509_cert_anchors.specs.CertCertificates.Certificates.{tbs_not_after, tbs_not_before}
use Rattle.x509_cert_anchors.specs.CertCertificates.Certificates.{tbs_public_key, tbs_subject}
use Rattle.x509_cert_anchors.specs.Der.Shapes.{octets_of}
use Rattle.x509_cert_anchors.specs.CertNames.Names.{PlainName}
use Rattle.x509_cert_anchors.specs.CertParts.Grammar.{PlainExtension, PublicKey, is_critical}
use Rattle.x509_cert_anchors.specs.Types.Seconds.{unix_seconds}
use Rattle.cert_desk_checking.specs.Anchors.{controls_name, info_controls, info_key}
use Rattle.cert_desk_rules.specs.declared.rule.Rule.{Rule}
use Rattle.cert_desk_rules.specs.declared.rule.Rule.TheVariants as rules
use Rattle.cert_desk_rules.specs.Judging.{Answers, accepted, are_distinct}
use Rattle.cert_desk_rules.specs.Paths.{is_within, same_name, used_up}
use Rattle.cert_desk_rules.specs.Weighing.{is_authority, is_malformed, is_unweighed}
use Rattle.cert_desk_rules.specs.Weighing.{may_certify, path_length, serves, weigh}

-- The fields of a trust anchor's certificate, if it has one (RFC 5914 2).
abbrev pub anchor_tbs : PlainChoice → Option Tbs
anchor_tbs (inl c) = Some (tbs c)
anchor_tbs (inr (inl t)) = Some t
anchor_tbs (inr (inr i)) = None

-- The field exts of TrustAnchorInfo (RFC 5914 2.6).
abbrev pub info_extensions : PlainInfo → Option (List PlainExtension)
info_extensions i = i.1.1.1.1.1.0

-- The extensions of a trust anchor of any of the three kinds.
abbrev pub anchor_extensions : PlainChoice → List PlainExtension
anchor_extensions (inl c) = extensions_of c
anchor_extensions (inr (inl t)) = option_map_or (λ es. es) (tbs_extensions t) []
anchor_extensions (inr (inr i)) = option_map_or (λ es. es) (info_extensions i) []

-- The number of certificates of a chain that count for a path length before it (RFC 5280 4.2.1.9).
abbrev pub counted : List PlainCertificate → ℕ
counted cs = used_up Bound cs 0 (length cs)

-- A trust anchor without extensions, such as one of version 1, may issue certificates. One with
-- extensions must be a CA whose key may sign certificates (4.2.1.3, 4.2.1.9).
abbrev pub may_anchor : List PlainExtension → Bool
may_anchor es =
    (length es == 0)
    || (list_any (λ e. is_authority (weigh Bound e)) es
    && list_all (λ e. may_certify (weigh Bound e)) es)

-- The trust anchor keeps a rule of certificates, at a validation time, for a key purpose, before
-- this chain. Its own issuer and signature aren't checked (RFC 5280 6.1).
abbrev pub anchor_keeps : Rule → ℕ → List ℕ → List PlainCertificate → PlainChoice → Bool
anchor_keeps rules.AlgorithmsDiffer moment purpose cs a = true
anchor_keeps rules.DuplicateExtension moment purpose cs a = are_distinct (anchor_extensions a)
anchor_keeps rules.MalformedExtension moment purpose cs a =
    not (list_any (λ e. is_malformed (weigh Bound e)) (anchor_extensions a))
anchor_keeps rules.UnweighedCritical moment purpose cs a =
    not (list_any (λ e. is_critical e && is_unweighed (weigh Bound e)) (anchor_extensions a))
anchor_keeps rules.WrongIssuer moment purpose cs a = true
anchor_keeps rules.NotYetValid moment purpose cs a =
    option_map_or (λ t. nat_le (unix_seconds (tbs_not_before t)) moment) (anchor_tbs a) true
anchor_keeps rules.Expired moment purpose cs a =
    option_map_or (λ t. nat_le moment (unix_seconds (tbs_not_after t))) (anchor_tbs a) true
anchor_keeps rules.AgainstPurpose moment purpose cs a =
    list_all (λ e. serves purpose (weigh Bound e)) (anchor_extensions a)
anchor_keeps rules.NotAuthority moment purpose cs a = may_anchor (anchor_extensions a)
anchor_keeps rules.PathTooLong moment purpose cs a =
    list_all (λ e. is_within (counted cs) (path_length (weigh Bound e))) (anchor_extensions a)
anchor_keeps rules.WrongSignature moment purpose cs a = true

-- The name is that of the certificate's issuer, and the verifier accepts the signature under the
-- key (6.1.3 (a) (1), (4)).
abbrev pub is_issued_as : Answers → List ℕ → PlainCertificate → PlainName → PublicKey → Bool
is_issued_as answers signed c name key =
    same_name Bound (issuer c) name && accepted answers signed c key

-- The trust anchor issued a certificate with these signed bytes.
abbrev pub issues : Answers → List ℕ → PlainCertificate → PlainChoice → Bool
issues answers signed c (inl r) = is_issued_as answers signed c (subject r) (public_key r)
issues answers signed c (inr (inl t)) =
    is_issued_as answers signed c (tbs_subject t) (tbs_public_key t)
issues answers signed c (inr (inr i)) =
    option_map_or (λ p. is_issued_as answers signed c (controls_name p) (info_key i))
    (info_controls i) false

-- The trust anchor issued the first certificate of a chain. The signed bytes are the encoding of
-- its tbsCertificate.
abbrev pub issues_chain : Answers → List PlainCertificate → PlainChoice → Bool
issues_chain answers cs a = option_map_or
    (λ c. issues answers (octets_of (raw_tbs_certificate Bound) (tbs c)) c a) (slice_get cs 0) false
