-- The trust anchors that a chain depends on, and what its certificates show to a verifier.
use Rattle.std.specs.Prelude.{ℕ, List, Option, slice_get}
use Rattle.std.specs.List.{filter}
use Rattle.std.specs.Option.{option_map}
use Rattle.x509_cert_anchors.specs.Der.BitStrings.{Bits}
use Rattle.x509_cert_anchors.specs.CertCertificates.Certificates.{PlainCertificate, outer_algorithm}
use Rattle.x509_cert_anchors.specs.CertCertificates.Certificates.{public_key}
use Rattle.x509_cert_anchors.specs.CertCertificates.Certificates.{signature_bits, subject}
use Rattle.x509_cert_anchors.specs.CertParts.Grammar.{Algorithm}
use Rattle.cert_desk_rules.specs.Judging.{Terms, PlainAnchor, is_named, signed_part}

-- The trust anchors with the issuer's name (RFC 5280 6.1.3 (a)(4)).
abbrev pub anchors_named : ℕ → PlainCertificate → List PlainAnchor → List PlainAnchor
anchors_named bound c anchors = filter (is_named bound c) anchors

-- A certificate as a trust anchor: its subject and key are those of the next one's issuer (RFC 5280
-- 6.1.4 (a), (d)).
abbrev pub as_anchor : PlainCertificate → PlainAnchor
as_anchor c = record { name = subject c; key = public_key c }

-- Terms with other trust anchors, which are otherwise the same.
abbrev pub among : Terms → List PlainAnchor → Terms
among t others = record t { anchors = others }

-- The facts about the certificate at an index that a verifier gets, whatever the key: the signed
-- bytes, the outer algorithm and the bits of the signature (RFC 5280 4.1.1).
abbrev pub shown_at : ℕ → List PlainCertificate → List ℕ → ℕ → Option (List ℕ × Algorithm × Bits)
shown_at bound cs stream place =
    option_map (λ c. (signed_part bound cs stream place c, outer_algorithm c, signature_bits c))
    (slice_get cs place)
