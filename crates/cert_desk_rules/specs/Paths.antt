-- Self-issued certificates, and the length of a certification path (RFC 5280 3.2, 4.2.1.9, 6.1.4
-- (l), (m)).
use Rattle.std.specs.Prelude.{ℕ, zero, suc, ◌+◌, ◌-◌, List, [], length, Bool, true, false, not}
use Rattle.std.specs.Prelude.{Option, Some, None, nat_le, ◌==◌, ◌&&◌, ◌||◌, if◌then◌else◌, bytes_eq}
use Rattle.std.specs.Prelude.{slice_get}
use Rattle.std.specs.List.{list_all}
use Rattle.std.specs.Option.{option_map_or}
use Rattle.cert_desk_bundle.specs.CertCertificates.Certificates.{PlainCertificate}
use Rattle.cert_desk_bundle.specs.CertParts.Grammar.{PlainExtension}
use Rattle.cert_desk_bundle.specs.CertNames.Names.{PlainName, name_octets}
use Rattle.cert_desk_rules.specs.CertificateFields.{fields}
use Rattle.cert_desk_rules.specs.Weighing.{path_length, weigh}

-- Two names have the same encoding.
abbrev pub same_name : ℕ → PlainName → PlainName → Bool
same_name bound a b = bytes_eq (name_octets bound a) (name_octets bound b)

-- The certificate is self-issued: its issuer and subject are the same name, with the same encoding
-- (RFC 5280 3.2).
abbrev pub is_self_issued : ℕ → PlainCertificate → Bool
is_self_issued bound c = same_name bound (fields c).issuer (fields c).subject

-- The index is that of the last certificate.
abbrev pub is_last : List PlainCertificate → ℕ → Bool
is_last cs place = (place + 1) == length cs

-- The certificate at an index counts for path lengths: it is neither the last nor self-issued (RFC
-- 5280 6.1.4 (l)).
abbrev pub counts : ℕ → List PlainCertificate → ℕ → Bool
counts bound cs place = not (is_last cs place) && option_map_or (λ c. not (is_self_issued bound c))
    (slice_get cs place) false

-- The number of those of the n certificates from an index on that count.
abbrev pub used_up : ℕ → List PlainCertificate → ℕ → ℕ → ℕ
used_up bound cs from zero = 0
used_up bound cs from (suc n) =
    used_up bound cs from n + (if counts bound cs (from + n) then 1 else 0)

-- The number n is within a path length constraint, if there is one (RFC 5280 4.2.1.9).
abbrev pub is_within : ℕ → Option ℕ → Bool
is_within n None = true
is_within n (Some most) = nat_le n most

-- The extensions of the certificate at an index, or none if there is no such certificate.
abbrev pub extensions_at : List PlainCertificate → ℕ → List PlainExtension
extensions_at cs place = option_map_or (λ c. (fields c).extensions) (slice_get cs place) []

-- The certificates after an index, up to another one, are within the path length of the certificate
-- at that index.
abbrev pub keeps_length : ℕ → List PlainCertificate → ℕ → ℕ → Bool
keeps_length bound cs place other = list_all
    (λ e. is_within (used_up bound cs (place + 1) (other - place)) (path_length (weigh bound e)))
    (extensions_at cs place)

-- Each of the first certificates keeps its path length up to an index.
abbrev pub keep_lengths : ℕ → List PlainCertificate → ℕ → ℕ → Bool
keep_lengths bound cs zero other = true
keep_lengths bound cs (suc place) other = keep_lengths bound cs place other
    && keeps_length bound cs place other

-- If the certificate at an index counts, it is within the path length of each certificate before
-- it.
abbrev pub is_within_lengths : ℕ → List PlainCertificate → ℕ → Bool
is_within_lengths bound cs place = not (counts bound cs place) || keep_lengths bound cs place place
