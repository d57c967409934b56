-- Trust anchors as contracts see them, and the terms under which a chain is validated.
use Rattle.std.specs.Prelude.{ℕ, List, map, Bool, ◌&&◌, if◌then◌else◌, is_none, Option, Some, None}
use Rattle.std.specs.Prelude.{Result, Ok, Err}
use Rattle.std.proofs.Common.{inl, inr}
use Rattle.x509_cert_anchors.specs.Oid.Bound.{Bound}
use Rattle.x509_cert_anchors.specs.CertNames.Views.{name_plain}
use Rattle.x509_cert_anchors.specs.CertParts.Views.{key_plain}
use Rattle.x509_cert_anchors.specs.CertNames.Names.{PlainName}
use Rattle.x509_cert_anchors.specs.CertParts.Grammar.{PublicKey}
use Rattle.x509_cert_anchors.specs.CertCertificates.Certificates.{subject, public_key, tbs_subject}
use Rattle.x509_cert_anchors.specs.CertCertificates.Certificates.{tbs_public_key}
use Rattle.x509_cert_anchors.specs.Anchors.{PlainControls, PlainInfo, PlainAnchor as PlainChoice}
use Rattle.cert_desk_checking.specs.declared.anchor.Anchor.{Anchor}
use Rattle.cert_desk_checking.specs.declared.anchor_error.AnchorError.{AnchorError}
use Rattle.cert_desk_checking.specs.declared.anchor_error.AnchorError.TheVariants as errors
use Rattle.cert_desk_rules.specs.Judging.{PlainAnchor, Answers, Terms}

-- A trust anchor as its name and key.
unfoldable pub anchor_plain : Anchor → PlainAnchor
anchor_plain a = record { name = name_plain a.name; key = key_plain a.key }

-- The key of a TrustAnchorInfo, and its path controls, if there are any (RFC 5914 2).
abbrev pub info_key : PlainInfo → PublicKey
info_key i = i.1.0

-- The path controls of a TrustAnchorInfo, if there are any (RFC 5914 2.5).
abbrev pub info_controls : PlainInfo → Option PlainControls
info_controls i = i.1.1.1.1.0

-- The name in path controls, and the fact that they contain nothing else (RFC 5914 2.5).
abbrev pub controls_name : PlainControls → PlainName
controls_name p = p.0

-- The path controls contain only the name (RFC 5914 2.5).
abbrev pub has_only_name : PlainControls → Bool
has_only_name p =
    is_none p.1.0
    && (is_none p.1.1.0 && (is_none p.1.1.1.0 && (is_none p.1.1.1.1.0 && is_none p.1.1.1.1.1.0)))

-- The name and key of a TrustAnchorInfo. It needs path controls with a name and nothing else (RFC
-- 5914 2.5).
abbrev pub given_by_key : PublicKey → Option PlainControls → Result PlainAnchor AnchorError
given_by_key key None = Err errors.NoName
given_by_key key (Some p) = if has_only_name p
    then Ok (record { name = controls_name p; key = key }) else Err errors.PathControls

-- The name and key of a trust anchor, or the reason why it can't be used. For a certificate or a
-- TBSCertificate they are its subject and its key (RFC 5914 2).
abbrev pub given_by : PlainChoice → Result PlainAnchor AnchorError
given_by (inl c) = Ok (record { name = subject c; key = public_key c })
given_by (inr (inl t)) = Ok (record { name = tbs_subject t; key = tbs_public_key t })
given_by (inr (inr i)) = given_by_key (info_key i) (info_controls i)

-- A key purpose as its arcs.
abbrev pub purpose_plain : List ℕ → List ℕ
purpose_plain p = p

-- The terms with these trust anchors, this validation time, this key purpose and this verifier.
abbrev pub terms_of : List Anchor → ℕ → List ℕ → Answers → Terms
terms_of anchors moment purpose answers = record {
  bound = Bound;
  anchors = map anchor_plain anchors;
  moment = moment;
  purpose = purpose;
  answers = answers;
}
