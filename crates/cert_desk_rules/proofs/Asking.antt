-- Questions to the verifier, and rules, at one index of a chain.
use Rattle.std.proofs.Common.{ℕ, List, Bool, ◌&&◌}
use Rattle.cert_desk_bundle.specs.CertCertificates.Certificates.{PlainCertificate}
use Rattle.cert_desk_bundle.specs.CertParts.Grammar.{PublicKey}
use Rattle.cert_desk_rules.specs.Judging.{PlainAnchor, Terms, accepted, keeps_at, may_ask, signed_part}
use Rattle.cert_desk_rules.specs.declared.rule.Rule.TheVariants as rules
use Rattle.cert_desk_rules.specs.Verdicts.{asked_until}

-- The verifier accepts the signature of the certificate at an index, under a key.
abbrev pub says_yes : Terms → List PlainCertificate → List ℕ → ℕ → PlainCertificate → PublicKey → Bool
says_yes t cs stream place c key = accepted t.answers (signed_part t.bound cs stream place c) c key

-- The number of these trust anchors under whose keys the verifier is asked about the first
-- certificate.
abbrev pub asked_anchors : Terms → List PlainCertificate → List ℕ → PlainCertificate → List PlainAnchor → ℕ
asked_anchors t cs stream c anchors = asked_until t.bound t.answers (signed_part t.bound cs stream 0 c) c anchors

-- The certificate at an index keeps every rule.
abbrev pub keeps_all : Terms → List PlainCertificate → List ℕ → ℕ → Bool
keeps_all t cs stream place = may_ask t cs stream place && keeps_at rules.WrongSignature t cs stream place
