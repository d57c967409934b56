-- The findings about a certificate's extensions, each checked once, and the limit that path lengths
-- set.
use Rattle.std.specs.Prelude.{◌≡◌, ℕ, zero, suc, ◌+◌, ◌-◌, List, Bool, true, false, Option, Some}
use Rattle.std.specs.Prelude.{None, min, if◌then◌else◌, ◌&&◌, ◌||◌}
use Rattle.std.specs.List.{fold, list_all}
use Rattle.std.specs.Option.{option_map}
use Rattle.cert_desk_bundle.specs.CertCertificates.Certificates.{PlainCertificate}
use Rattle.cert_desk_bundle.specs.CertParts.Grammar.{PlainExtension, is_critical}
use Rattle.cert_desk_rules.specs.declared.findings.Findings.{Findings}
use Rattle.cert_desk_rules.specs.declared.path_room.PathRoom.{PathRoom}
use Rattle.cert_desk_rules.specs.declared.weight.Weight.{Weight}
use Rattle.cert_desk_rules.specs.declared.weight.Weight.TheVariants as weights
use Rattle.cert_desk_rules.specs.Paths.{counts, extensions_at, is_within}
use Rattle.cert_desk_rules.specs.Weighing.{Meaning, uses, other_names, constraints, purposes}
use Rattle.cert_desk_rules.specs.Weighing.{malformed, unweighed, may_certify, path_length}
use Rattle.cert_desk_rules.specs.Weighing.{serves, weigh}

-- The facts about an extension that the rules need, for a key purpose.
abbrev pub weight_of : List ℕ → Meaning → Weight
weight_of purpose (uses set) = weights.KeyUsage (may_certify (uses set))
weight_of purpose (other_names names) = weights.AlternativeNames
weight_of purpose (constraints ca n) = weights.Constraints ca n
weight_of purpose (purposes listed) = weights.Purposes (serves purpose (purposes listed))
weight_of purpose malformed = weights.Malformed
weight_of purpose unweighed = weights.Unweighed

-- The smaller of two path lengths, either of which may be absent (RFC 5280 4.2.1.9).
abbrev pub shorter : Option ℕ → Option ℕ → Option ℕ
shorter None other = other
shorter (Some one) None = Some one
shorter (Some one) (Some other) = Some (min one other)

-- The findings about no extensions.
abbrev pub no_findings : Findings
no_findings = record {
  malformed = false;
  unweighed_critical = false;
  serves = true;
  ca = false;
  certifies = true;
  path_len = None;
}

-- The findings with one more extension.
abbrev pub add : Findings → Bool → Weight → Findings
add f critical weights.Unweighed =
    record f { unweighed_critical = f.unweighed_critical || critical }
add f critical weights.Malformed = record f { malformed = true }
add f critical (weights.KeyUsage certifies) = record f { certifies = f.certifies && certifies }
add f critical weights.AlternativeNames = f
add f critical (weights.Constraints ca n) =
    record f { ca = f.ca || ca; path_len = shorter f.path_len n }
add f critical (weights.Purposes serves) = record f { serves = f.serves && serves }

-- The findings with one more extension, for a key purpose.
abbrev pub add_extension : ℕ → List ℕ → Findings → PlainExtension → Findings
add_extension bound purpose f e = add f (is_critical e) (weight_of purpose (weigh bound e))

-- The findings about all extensions of a certificate.
abbrev pub found : ℕ → List ℕ → List PlainExtension → Findings
found bound purpose es = fold (add_extension bound purpose) no_findings es

-- The limit before the first certificate: there is none.
abbrev pub no_places : PathRoom
no_places = record { below = None }

-- The limit after a certificate that counts or doesn't.
abbrev pub left_by : Option ℕ → Bool → Option ℕ
left_by None counts = None
left_by (Some n) counts = Some (n - (if counts then 1 else 0))

-- The limit after one more certificate, which may have a path length (RFC 5280 6.1.4 (l), (m)).
abbrev pub add_place : PathRoom → Bool → Option ℕ → PathRoom
add_place room counts n = record { below = shorter (left_by room.below counts) (option_map suc n) }

-- The path lengths of the first certificates allow n more certificates that count.
abbrev pub allow : ℕ → List PlainCertificate → ℕ → ℕ → Bool
allow bound cs zero n = true
allow bound cs (suc place) n =
    allow bound cs place ((if counts bound cs place then 1 else 0) + n)
    && list_all (λ e. is_within n (path_length (weigh bound e))) (extensions_at cs place)

-- The limit that the certificates before an index set: fewer than `below` certificates that count
-- may follow.
abbrev pub IsRoom : ℕ → List PlainCertificate → ℕ → PathRoom → Type 0
IsRoom bound cs place room = (n : ℕ) → allow bound cs place n ≡ is_within (suc n) room.below
