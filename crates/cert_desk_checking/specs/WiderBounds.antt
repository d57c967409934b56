-- Chains and verdicts under a larger bound of arcs.
use Rattle.std.specs.Prelude.{◌≡◌, ℕ, ◌≤◌, ◌⊎◌, List, [], ◌∷◌, ◌++◌}
use Rattle.x509_cert_anchors.specs.Der.Bounds.{HoldsLarge}
use Rattle.x509_cert_anchors.specs.CertCertificates.Certificates.{PlainCertificate, raw_certificate}
use Rattle.cert_desk_rules.specs.declared.checked.Verdict.{Verdict}
use Rattle.cert_desk_rules.specs.DeskBundle.declared.fault_kind.FaultKind.{FaultKind}
use Rattle.cert_desk_checking.specs.Bounded.{OneBecomesReadable, OneHoldsLarge, bounded}
use Rattle.cert_desk_checking.specs.Bounded.{identifiers_in}
use Rattle.cert_desk_rules.specs.DeskBundle.Chains.{Chain}
use Rattle.cert_desk_rules.specs.DeskBundle.Faults.{StreamFault}
use Rattle.cert_desk_rules.specs.Judging.{Terms}
use Rattle.cert_desk_rules.specs.DeskBundle.Series.{BeginsSeries}
use Rattle.cert_desk_rules.specs.Verdicts.{IsVerdict, Trusted, asked}

-- A chain is the same chain under a larger bound.
abbrev pub WiderKeepsChains : Type 0
WiderKeepsChains =
    (small large limit : ℕ) (cs : List PlainCertificate) (stream : List ℕ) → small ≤ large
    → Chain small limit cs stream → Chain large limit cs stream

-- A chain under the larger bound is a chain under the smaller one, or one of its certificates
-- contains an OID with an arc that isn't below the smaller one.
abbrev pub NewChainsHoldLarge : Type 0
NewChainsHoldLarge =
    (small large limit : ℕ) (cs : List PlainCertificate) (stream : List ℕ)
    → Chain large limit cs stream → Chain small limit cs stream ⊎ OneHoldsLarge small cs

-- A trusted input is trusted under a larger bound, with as many questions.
abbrev pub WiderKeepsTrust : Type 0
WiderKeepsTrust =
    (t : Terms) (wide limit : ℕ) (stream : List ℕ) → t.bound ≤ wide → Trusted t limit stream
    → Trusted (bounded t wide) limit stream
    × ((cs : List PlainCertificate) → Chain t.bound limit cs stream → asked t cs stream
    ≡ asked (bounded t wide) cs stream)

-- A chain has the same verdict under both terms, with as many questions.
abbrev pub IsJudgedSame : Terms → Terms → ℕ → List PlainCertificate → List ℕ → Type 0
IsJudgedSame t other limit cs stream =
    ((verdict : Verdict) → IsVerdict t limit stream verdict → IsVerdict other limit stream verdict)
    × (asked t cs stream ≡ asked other cs stream)

-- A chain has the same verdict under a larger bound, unless the content of a checked extension can
-- only be decoded there.
abbrev pub WiderKeepsVerdicts : Type 0
WiderKeepsVerdicts =
    (t : Terms) (wide limit : ℕ) (cs : List PlainCertificate) (stream : List ℕ) → t.bound ≤ wide
    → Chain t.bound limit cs stream
    → IsJudgedSame t (bounded t wide) limit cs stream ⊎ OneBecomesReadable t.bound wide cs

-- An input has the same error under a larger bound, unless it has a certificate there under that
-- bound, which then contains an arc that isn't below the smaller one.
abbrev pub WiderKeepsFaults : Type 0
WiderKeepsFaults =
    (small large limit : ℕ) (cs : List PlainCertificate) (kind : FaultKind) (stream : List ℕ)
    → small ≤ large → StreamFault small limit stream cs kind
    → StreamFault large limit stream cs kind
    ⊎ ((c : PlainCertificate) × BeginsSeries (raw_certificate large) limit (cs ++ c ∷ []) stream
    × HoldsLarge small (identifiers_in c))
