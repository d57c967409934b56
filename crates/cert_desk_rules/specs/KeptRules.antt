-- The rules that each certificate of a chain keeps.
use Rattle.std.specs.Prelude.{◌≡◌, ◌<◌, ◌⊎◌, ℕ, List, length, Bool, true, false, Option, Some}
use Rattle.std.specs.Prelude.{None, slice_get}
use Rattle.std.specs.Option.{option_map_or}
use Rattle.cert_desk_bundle.specs.CertCertificates.Certificates.{PlainCertificate}
use Rattle.cert_desk_rules.specs.declared.kept_rules.KeptRules.{KeptRules}
use Rattle.cert_desk_rules.specs.declared.rule.Rule.{Rule}
use Rattle.cert_desk_rules.specs.declared.rule.Rule.TheVariants as rules
use Rattle.cert_desk_rules.specs.Judging.{Terms, keeps_at, number}

-- The certificate keeps a rule. A new rule adds a line.
abbrev pub kept_by : KeptRules → Rule → Bool
kept_by k rules.AlgorithmsDiffer = k.one_algorithm
kept_by k rules.DuplicateExtension = k.distinct
kept_by k rules.MalformedExtension = k.well_formed
kept_by k rules.UnweighedCritical = k.known
kept_by k rules.WrongIssuer = k.linked
kept_by k rules.NotYetValid = k.begun
kept_by k rules.Expired = k.lasting
kept_by k rules.AgainstPurpose = k.serving
kept_by k rules.NotAuthority = k.issuing
kept_by k rules.PathTooLong = k.within_lengths
kept_by k rules.WrongSignature = k.signed

-- The first rule that the certificate breaks.
abbrev pub IsFirstOf : KeptRules → Option Rule → Type 0
IsFirstOf k None = (rule : Rule) → kept_by k rule ≡ true
IsFirstOf k (Some rule) = (kept_by k rule ≡ false)
    × ((other : Rule) → number other < number rule → kept_by k other ≡ true)

-- The first rule before that of the signature that the certificate breaks.
abbrev pub IsFirstUnsignedOf : KeptRules → Option Rule → Type 0
IsFirstUnsignedOf k None =
    (rule : Rule) → number rule < number rules.WrongSignature → kept_by k rule ≡ true
IsFirstUnsignedOf k (Some rule) =
    (number rule < number rules.WrongSignature) × (kept_by k rule ≡ false)
    × ((other : Rule) → number other < number rule → kept_by k other ≡ true)

-- The certificate at an index keeps a rule, according to the results of the check.
abbrev pub kept_at : List KeptRules → ℕ → Rule → Bool
kept_at judged place rule = option_map_or (λ k. kept_by k rule) (slice_get judged place) true

-- The results say for each certificate and each rule whether the certificate keeps it.
pub record AreJudged (t : Terms) (cs : List PlainCertificate) (stream : List ℕ)
    (judged : List KeptRules) : Type 0 where
  pub each : length judged ≡ length cs
  pub kept : (place : ℕ) (rule : Rule) → kept_at judged place rule ≡ keeps_at rule t cs stream place

-- The order of breaches: by index first, then by rule.
abbrev pub Before : ℕ → Rule → ℕ → Rule → Type 0
Before place rule other_place other = (place < other_place)
    ⊎ ((place ≡ other_place) × (number rule < number other))

-- This rule is broken at this index, and there is no earlier breach.
abbrev pub IsFirstBreach : List KeptRules → ℕ → Rule → Type 0
IsFirstBreach judged place rule = (kept_at judged place rule ≡ false)
    × ((other_place : ℕ) (other : Rule) → Before other_place other place rule
    → kept_at judged other_place other ≡ true)
