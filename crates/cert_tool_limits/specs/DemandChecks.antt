-- The result of checking demands on a trusted chain beyond the rules of path validation.
use Rattle.std.specs.Prelude.{◌≡◌, ℕ, List, Bool, true, false, not, ◌&&◌, ◌||◌, Option, Some, None}
use Rattle.std.specs.Prelude.{is_some}
use Rattle.std.specs.List.{list_any}
use Rattle.x509_cert_anchors.specs.Anchors.{PlainAnchor as PlainChoice}
use Rattle.x509_cert_anchors.specs.CertCertificates.Certificates.{PlainCertificate}
use Rattle.cert_desk_rules.specs.Judging.{Answers}
use Rattle.cert_tool_limits.specs.declared.demands.Demands.{Demands}
use Rattle.cert_tool_limits.specs.declared.demands.DemandResult.{DemandResult}
use Rattle.cert_tool_limits.specs.declared.demands.DemandResult.TheVariants as outcomes
use Rattle.cert_tool_limits.specs.Choices.{AreChoices}
use Rattle.cert_tool_limits.specs.Limits.{IsUnmet, anchors_end, certificate_ends, meets_host}
use Rattle.cert_tool_limits.specs.Limits.{meets_strict, of_place}

-- There are demands.
abbrev pub are_made : Demands → Bool
are_made demands = is_some demands.host || (demands.is_strict || is_some demands.warn_days)

-- The chain meets the demands: the end-entity certificate is issued for the host, and, if the
-- demands are strict, no limit is broken.
abbrev pub meets : Demands → Answers → ℕ → List ℕ → List PlainCertificate → List PlainChoice
    → Bool
meets demands answers moment purpose cs anchors = meets_host demands.host cs
    && (not demands.is_strict || meets_strict answers moment purpose cs anchors)

-- The result for a number of days: nothing ends within them, or the certificate at an index does,
-- or the trust anchor does.
abbrev pub IsEndingWithin : ℕ → Answers → ℕ → List PlainCertificate → List PlainChoice
    → DemandResult → Type 0
IsEndingWithin days answers moment cs anchors outcomes.Met =
    (list_any (certificate_ends days moment) cs ≡ false)
    × (anchors_end answers days moment cs anchors ≡ false)
IsEndingWithin days answers moment cs anchors (outcomes.Ends (Some place)) =
    of_place (certificate_ends days moment) cs place ≡ true
IsEndingWithin days answers moment cs anchors (outcomes.Ends None) =
    anchors_end answers days moment cs anchors ≡ true
IsEndingWithin days answers moment cs anchors (outcomes.Unmet unmet) = ⊥

-- The result of looking for what ends soon, if a number of days is given.
abbrev pub IsEnding : Option ℕ → Answers → ℕ → List PlainCertificate → List PlainChoice
    → DemandResult → Type 0
IsEnding None answers moment cs anchors held = held ≡ outcomes.Met
IsEnding (Some days) answers moment cs anchors held =
    IsEndingWithin days answers moment cs anchors held

-- The result: a demand that isn't met; or, if all are met, whether the chain ends soon.
abbrev pub IsDemandResultUnder : Demands → Answers → ℕ → List ℕ → List PlainCertificate
    → List PlainChoice → DemandResult → Type 0
IsDemandResultUnder demands answers moment purpose cs anchors (outcomes.Unmet unmet) =
    (meets demands answers moment purpose cs anchors ≡ false)
    × IsUnmet demands.host answers moment purpose cs anchors unmet.place unmet.limit
IsDemandResultUnder demands answers moment purpose cs anchors held =
    (meets demands answers moment purpose cs anchors ≡ true)
    × IsEnding demands.warn_days answers moment cs anchors held

-- The result under the trust anchors of a file.
abbrev pub IsDemandResult : Demands → Answers → ℕ → List ℕ → List PlainCertificate → List ℕ
    → DemandResult → Type 0
IsDemandResult demands answers moment purpose cs octets held =
    (anchors : List PlainChoice) × AreChoices octets anchors
    × IsDemandResultUnder demands answers moment purpose cs anchors held
