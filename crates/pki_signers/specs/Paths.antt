-- Certification paths among certificates in any order (RFC 5280 6.1). The certificates of a signed
-- message are a SET OF, so they are sorted by their encodings (RFC 5652 10.2.3).
use Rattle.std.specs.Prelude.{ℕ, List, length, Bool, false, ◌||◌}
use Rattle.std.specs.Prelude.{Option, None, if◌then◌else◌, slice_get}
use Rattle.std.specs.List.{filter_map, list_any, position}
use Rattle.std.specs.Option.{option_map_or}
use Rattle.cert_desk_checking.specs.CertCertificates.Certificates.{PlainCertificate, issuer}
use Rattle.cert_desk_checking.specs.CertCertificates.Certificates.{subject}
use Rattle.cert_desk_checking.specs.DeskRules.Judging.{PlainAnchor, is_named}
use Rattle.cert_desk_checking.specs.DeskRules.Paths.{is_self_issued, same_name}
use Rattle.pki_signers.specs.Followed.{followed}

-- A path begins with this certificate: it is self-issued (RFC 5280 3.2), or its issuer is a trust
-- anchor (6.1 (b)).
abbrev pub is_top : ℕ → List PlainAnchor → PlainCertificate → Bool
is_top bound anchors c = is_self_issued bound c || list_any (is_named bound c) anchors

-- The subject of the other certificate is the issuer of this one (RFC 5280 6.1 (a)).
abbrev pub is_issuer : ℕ → PlainCertificate → PlainCertificate → Bool
is_issuer bound c other = same_name bound (issuer c) (subject other)

-- The subject of the certificate at an index is the issuer of the one at another index.
abbrev pub is_link : ℕ → List PlainCertificate → ℕ → ℕ → Bool
is_link bound cs above below = option_map_or
    (λ c. option_map_or (is_issuer bound c) (slice_get cs above) false) (slice_get cs below) false

-- The index of the first certificate whose subject is the issuer of this one.
abbrev pub issuer_among : ℕ → List PlainCertificate → PlainCertificate → Option ℕ
issuer_among bound cs c = position (is_issuer bound c) cs

-- The index of the certificate that comes before this one in a path, if there is one.
abbrev pub next_up : ℕ → List PlainAnchor → List PlainCertificate → ℕ → Option ℕ
next_up bound anchors cs place =
    option_map_or (λ c. if is_top bound anchors c then None else issuer_among bound cs c)
    (slice_get cs place) None

-- The path from a certificate up to the one with which it begins, as indices. It has at most as
-- many certificates as there are.
abbrev pub path_up : ℕ → List PlainAnchor → List PlainCertificate → ℕ → List ℕ
path_up bound anchors cs place = followed (next_up bound anchors cs) (length cs) place

-- The certificates at these indices.
abbrev pub certificates_at : List PlainCertificate → List ℕ → List PlainCertificate
certificates_at cs places = filter_map (λ place. slice_get cs place) places
