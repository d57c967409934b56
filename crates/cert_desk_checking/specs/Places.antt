-- The check of one certificate of a chain, and the number of questions for it.
use Rattle.std.specs.Prelude.{◌≡◌, ℕ, zero, suc, ◌+◌, ◌<◌, List, map, Bool, true, false, Option}
use Rattle.std.specs.Prelude.{Some, None, ◌&&◌, if◌then◌else◌, slice_get}
use Rattle.std.specs.List.{list_any}
use Rattle.x509_cert_anchors.specs.Oid.Bound.{Bound}
use Rattle.x509_cert_anchors.specs.CertCertificates.Certificates.{PlainCertificate, issuer}
use Rattle.x509_cert_anchors.specs.CertCertificates.Certificates.{public_key, subject}
use Rattle.x509_cert_anchors.specs.CertCertificates.Views.{certificate_plain}
use Rattle.cert_desk_checking.specs.declared.anchor.Anchor.{Anchor}
use Rattle.cert_desk_checking.specs.declared.issuer.Issuer.{Issuer}
use Rattle.cert_desk_checking.specs.declared.issuer.Issuer.TheVariants as issuers
use Rattle.cert_desk_rules.specs.declared.path_room.PathRoom.{PathRoom}
use Rattle.cert_desk_rules.specs.declared.rule.Rule.{Rule}
use Rattle.cert_desk_rules.specs.declared.rule.Rule.TheVariants as rules
use Rattle.cert_desk_checking.specs.Anchors.{anchor_plain}
use Rattle.cert_desk_rules.specs.Findings.{IsRoom}
use Rattle.cert_desk_rules.specs.Judging.{Answers, Terms, PlainAnchor, keeps_at, number}
use Rattle.cert_desk_rules.specs.Judging.{accepted, is_named}
use Rattle.cert_desk_rules.specs.Paths.{is_last, same_name}
use Rattle.cert_desk_rules.specs.Verdicts.{asked_signature, asked_until, raised}

-- The first rule before that of the signature that the certificate at an index breaks, or `None`.
abbrev pub IsFirstUnsigned : Terms → List PlainCertificate → List ℕ → ℕ → Option Rule → Type 0
IsFirstUnsigned t cs stream place None = (rule : Rule) → number rule < number rules.WrongSignature
    → keeps_at rule t cs stream place ≡ true
IsFirstUnsigned t cs stream place (Some rule) =
    (number rule < number rules.WrongSignature) × (keeps_at rule t cs stream place ≡ false)
    × ((other : Rule) → number other < number rule → keeps_at other t cs stream place ≡ true)

-- The trust anchor has the issuer's name, and the verifier accepts the signature under its key.
unfoldable pub signs : ℕ → Answers → List ℕ → PlainCertificate → PlainAnchor → Bool
signs bound answers signed c a = is_named bound c a && accepted answers signed c a.key

-- The number of questions under the key of a trust anchor.
unfoldable pub asked_once : ℕ → PlainCertificate → PlainAnchor → ℕ
asked_once bound c a = if is_named bound c a then 1 else 0

-- The certificate's issuer is the name of a trust anchor, or the subject of the certificate before
-- (RFC 5280 6.1.3 (a)(4)).
abbrev pub linked_to : ℕ → Issuer → PlainCertificate → Bool
linked_to bound (issuers.Anchors anchors) c =
    list_any (is_named bound c) (map anchor_plain anchors.now)
linked_to bound (issuers.Before b) c =
    same_name bound (issuer c) (subject (certificate_plain b.now))

-- The verifier accepts the signature under the key of a trust anchor with the issuer's name, or of
-- the certificate before (RFC 5280 6.1.3 (a)(1)).
abbrev pub signed_by : ℕ → Answers → List ℕ → PlainCertificate → Issuer → Bool
signed_by bound answers signed c (issuers.Anchors anchors) =
    list_any (signs bound answers signed c) (map anchor_plain anchors.now)
signed_by bound answers signed c (issuers.Before b) =
    accepted answers signed c (public_key (certificate_plain b.now))

-- The number of questions about a signature: under the trust anchors with the issuer's name, up to
-- the first accepted one, or one under the key of the certificate before.
abbrev pub asked_of : ℕ → Answers → List ℕ → PlainCertificate → Issuer → ℕ
asked_of bound answers signed c (issuers.Anchors anchors) =
    asked_until bound answers signed c (map anchor_plain anchors.now)
asked_of bound answers signed c (issuers.Before b) = 1

-- These may have issued the certificate at an index: the trust anchors for the first one, and
-- otherwise the certificate before.
abbrev pub IsIssuer : List PlainCertificate → List Anchor → ℕ → Issuer → Type 0
IsIssuer cs anchors zero (issuers.Anchors those) = those.now ≡ anchors
IsIssuer cs anchors zero (issuers.Before b) = ⊥
IsIssuer cs anchors (suc before) (issuers.Anchors those) = ⊥
IsIssuer cs anchors (suc before) (issuers.Before b) =
    slice_get cs before ≡ Some (certificate_plain b.now)

-- The facts that the check of a certificate needs: the certificate itself, whether it is the last,
-- its possible issuers, and the limit that the path lengths before it set.
pub record StandsAt (cs : List PlainCertificate) (anchors : List Anchor) (place : ℕ)
    (c : PlainCertificate) (last : Bool) (i : Issuer) (r : PathRoom) : Type 0 where
  pub certificate : slice_get cs place ≡ Some c
  pub last_is : last ≡ is_last cs place
  pub issuer : IsIssuer cs anchors place i
  pub room : IsRoom Bound cs place r

-- The verifier's count of questions and a count of calls both rose by n.
pub record Rises (n old_questions old_calls new_questions new_calls : ℕ) : Type 0 where
  pub questions : new_questions ≡ raised old_questions n
  pub calls : new_calls ≡ raised old_calls n

-- The number of questions about the first n certificates if each is checked, whatever rules the
-- others break. There is one for each certificate after the first. For the first, there is one for
-- each trust anchor up to the first accepted one.
abbrev pub asked_each : Terms → List PlainCertificate → List ℕ → ℕ → ℕ
asked_each t cs stream zero = 0
asked_each t cs stream (suc others) = asked_signature t cs stream 0 + others
