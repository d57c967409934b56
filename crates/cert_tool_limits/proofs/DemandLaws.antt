-- The cases of the demands on a chain.
use Rattle.std.proofs.Common.{◌≡◌, ℕ, List, [], ◌∷◌, Bool, true, false, ◌&&◌, ◌||◌, Option, Some, None, inl, inr, refl, ap, ◌∙◌}
use Rattle.std.specs.List.{list_any}
use Rattle.x509_cert_anchors.specs.Anchors.{PlainAnchor as PlainChoice}
use Rattle.x509_cert_anchors.specs.CertCertificates.Certificates.{PlainCertificate}
use Rattle.cert_desk_rules.specs.Judging.{Answers}
use Rattle.cert_desk_rules.proofs.Folds.{and_no}
use Rattle.cert_tool_hosts.specs.declared.host.Host.{Host}
use Rattle.cert_tool_limits.specs.declared.demands.DemandResult.{DemandResult}
use Rattle.cert_tool_limits.specs.declared.demands.DemandResult.TheVariants as outcomes
use Rattle.cert_tool_limits.specs.declared.demands.Demands.{Demands}
use Rattle.cert_tool_limits.specs.declared.demands.Unmet.{Unmet}
use Rattle.cert_tool_limits.specs.declared.limit.Limit.{Limit}
use Rattle.cert_tool_limits.specs.declared.limit.Limit.TheVariants as limits
use Rattle.cert_tool_limits.specs.DemandChecks.{IsDemandResultUnder, IsEnding, meets}
use Rattle.cert_tool_limits.specs.Limits.{IsBroken, IsUnmet}

-- A limit that a trust anchor breaks is one of those about trust anchors.
none_breaks : (issued : PlainChoice → Bool) (anchors : List PlainChoice) → list_any (λ a. issued a && false) anchors ≡ true → ⊥
none_breaks issued [] e = absurd cc
none_breaks issued (a ∷ anchors) e =
    none_breaks issued anchors (ap (λ b. b || list_any (λ x. issued x && false) anchors) (and_no (issued a)) ∙ e)

module _ (host : Option Host) (answers : Answers) (moment : ℕ) (purpose : List ℕ) (cs : List PlainCertificate) (anchors : List PlainChoice) where
  pub unmet_by_anchor : (limit : Limit) → IsBroken answers moment purpose cs anchors limit → IsUnmet host answers moment purpose cs anchors 0 limit
  unmet_by_anchor (limits.Anchor rule) broken = (refl, broken)
  unmet_by_anchor limits.AnchorConstrainedNames broken = (refl, broken)
  unmet_by_anchor limits.WrongHost (inl e) = absurd (none_breaks _ anchors e)
  unmet_by_anchor limits.WrongHost (inr p) = let none = p.0 in absurd cc
  unmet_by_anchor limits.WrongKeyUsage (inl e) = absurd (none_breaks _ anchors e)
  unmet_by_anchor limits.WrongKeyUsage (inr p) = let none = p.0 in absurd cc
  unmet_by_anchor limits.ConstrainedNames (inl e) = absurd (none_breaks _ anchors e)
  unmet_by_anchor limits.ConstrainedNames (inr p) = let none = p.0 in absurd cc

-- Looking for what ends soon finds no demand that isn't met.
module _ (answers : Answers) (moment : ℕ) (cs : List PlainCertificate) (anchors : List PlainChoice) where
  no_unmet : (days : Option ℕ) (unmet : Unmet) → IsEnding days answers moment cs anchors (outcomes.Unmet unmet) → ⊥
  no_unmet None unmet e = absurd cc
  no_unmet (Some days) unmet e = e

  pub held_by_ending : (demands : Demands) (purpose : List ℕ) (held : DemandResult) → meets demands answers moment purpose cs anchors ≡ true
      → IsEnding demands.warn_days answers moment cs anchors held → IsDemandResultUnder demands answers moment purpose cs anchors held
  held_by_ending demands purpose outcomes.Met met ending = (met, ending)
  held_by_ending demands purpose (outcomes.Ends place) met ending = (met, ending)
  held_by_ending demands purpose (outcomes.Unmet unmet) met ending = absurd (no_unmet demands.warn_days unmet ending)
