-- Laws about every chain: about its parts, about trust anchors with other names, and about the
-- questions.
use Rattle.std.specs.Prelude.{◌≡◌, ℕ, ◌+◌, ◌≤◌, ◌<◌, List, [], ◌∷◌, ◌++◌, length}
use Rattle.x509_cert_anchors.specs.CertCertificates.Certificates.{PlainCertificate}
use Rattle.cert_desk_rules.specs.declared.checked.Verdict.{Verdict}
use Rattle.cert_desk_rules.specs.DeskBundle.Chains.{Chain, joined}
use Rattle.cert_desk_checking.specs.Issuers.{among, anchors_named, as_anchor, shown_at}
use Rattle.cert_desk_rules.specs.Judging.{PlainAnchor, Terms}
use Rattle.cert_desk_rules.specs.Verdicts.{IsVerdict, Trusted, asked}

-- There is at most one question for each certificate after the first, and one for each trust anchor
-- with the name of the first one's issuer.
abbrev pub HasFewQuestions : Type 0
HasFewQuestions =
    (t : Terms) (c : PlainCertificate) (cs : List PlainCertificate) (stream : List ℕ)
    → (asked t (c ∷ cs) stream ≤ length cs + length (anchors_named t.bound c t.anchors))
    × (asked t (c ∷ cs) stream ≤ length cs + length t.anchors)

-- Each nonempty prefix of a trusted chain is trusted.
abbrev pub HasTrustedFronts : Type 0
HasTrustedFronts =
    (t : Terms) (limit : ℕ) (stream : List ℕ) (cs more : List PlainCertificate)
    → Chain t.bound limit (cs ++ more) stream → 0 < length cs → Trusted t limit stream
    → Trusted t limit (joined t.bound cs)

-- Each nonempty suffix of a trusted chain is trusted, if the certificate before it is the only
-- trust anchor.
abbrev pub HasTrustedRests : Type 0
HasTrustedRests =
    (t : Terms) (limit : ℕ) (stream : List ℕ) (before cs : List PlainCertificate)
    (c : PlainCertificate)
    → Chain t.bound limit (before ++ c ∷ cs) stream → 0 < length cs → Trusted t limit stream
    → Trusted (among t (as_anchor c ∷ [])) limit (joined t.bound cs)

-- If two lists of trust anchors have the same anchors with the first issuer's name, the verdict is
-- the same, and the verifier is asked as often.
abbrev pub IgnoresStrangers : Type 0
IgnoresStrangers =
    (t : Terms) (others : List PlainAnchor) (limit : ℕ) (stream : List ℕ)
    → ((c : PlainCertificate) (cs : List PlainCertificate) → Chain t.bound limit (c ∷ cs) stream
    → anchors_named t.bound c t.anchors ≡ anchors_named t.bound c others)
    → ((verdict : Verdict) → IsVerdict t limit stream verdict
    → IsVerdict (among t others) limit stream verdict)
    × ((cs : List PlainCertificate) → Chain t.bound limit cs stream → asked t cs stream
    ≡ asked (among t others) cs stream)

-- Two chains that show the verifier the same at each index have the same bytes.
abbrev pub HasNothingOutside : Type 0
HasNothingOutside =
    (bound limit other_limit : ℕ) (cs ds : List PlainCertificate) (stream other : List ℕ)
    → Chain bound limit cs stream → Chain bound other_limit ds other
    → ((place : ℕ) → shown_at bound cs stream place ≡ shown_at bound ds other place)
    → stream ≡ other

-- Two chains of the same certificates, with the same forms of dates, have the same bytes.
abbrev pub HasOneStream : Type 0
HasOneStream =
    (bound limit other_limit : ℕ) (cs : List PlainCertificate) (stream other : List ℕ)
    → Chain bound limit cs stream → Chain bound other_limit cs other → stream ≡ other
