-- The facts that were collected about a trust anchor's extensions determine which rules it keeps.
use Rattle.std.proofs.Common.{◌≡◌, ℕ, List, Bool, true, false, not, ◌||◌, ◌&&◌, ◌==◌, Some, None, length, sym, ap, ◌∙◌}
use Rattle.std.specs.List.{list_any}
use Rattle.std.proofs.lemmas.Bool.{both_ways, false_from_ne_true}
use Rattle.x509_cert_anchors.specs.Anchors.{PlainAnchor as PlainChoice}
use Rattle.x509_cert_anchors.specs.Oid.Bound.{Bound}
use Rattle.x509_cert_anchors.specs.CertCertificates.Certificates.{PlainCertificate}
use Rattle.cert_desk_rules.specs.declared.findings.Findings.{Findings}
use Rattle.cert_desk_rules.specs.declared.kept_rules.KeptRules.{KeptRules}
use Rattle.cert_desk_rules.specs.declared.rule.Rule.{Rule}
use Rattle.cert_desk_rules.specs.declared.rule.Rule.TheVariants as rules
use Rattle.cert_desk_rules.specs.Findings.{found}
use Rattle.cert_desk_rules.specs.Judging.{Answers}
use Rattle.cert_desk_rules.specs.KeptRules.{IsFirstUnsignedOf, kept_by}
use Rattle.cert_desk_rules.specs.Paths.{is_within}
use Rattle.cert_desk_rules.specs.Weighing.{is_authority, weigh}
use Rattle.cert_desk_rules.proofs.FoundLaws.{found_ca, found_certifies, found_length, found_malformed, found_serves, found_unweighed}
use Rattle.cert_desk_rules.proofs.RuleList.{all_of_tests, test_of_all}
use Rattle.cert_tool_limits.specs.declared.limit.Limit.TheVariants as limits
use Rattle.cert_tool_limits.specs.AnchorRules.{anchor_extensions, anchor_keeps, counted, issues_chain}
use Rattle.cert_tool_limits.specs.Limits.{breaks, constrains_names, is_strict}

-- Each rule is a test of the facts.
module _ (k : KeptRules) (moment : ℕ) (purpose : List ℕ) (cs : List PlainCertificate) (a : PlainChoice) where
  pub kept_is : k.one_algorithm ≡ true → k.distinct ≡ anchor_keeps rules.DuplicateExtension moment purpose cs a
      → k.well_formed ≡ anchor_keeps rules.MalformedExtension moment purpose cs a → k.known ≡ anchor_keeps rules.UnweighedCritical moment purpose cs a
      → k.linked ≡ true → k.begun ≡ anchor_keeps rules.NotYetValid moment purpose cs a → k.lasting ≡ anchor_keeps rules.Expired moment purpose cs a
      → k.serving ≡ anchor_keeps rules.AgainstPurpose moment purpose cs a → k.issuing ≡ anchor_keeps rules.NotAuthority moment purpose cs a
      → k.within_lengths ≡ anchor_keeps rules.PathTooLong moment purpose cs a → k.signed ≡ true
      → (rule : Rule) → kept_by k rule ≡ anchor_keeps rule moment purpose cs a
  kept_is one two three four five six seven eight nine ten eleven rules.AlgorithmsDiffer = one
  kept_is one two three four five six seven eight nine ten eleven rules.DuplicateExtension = two
  kept_is one two three four five six seven eight nine ten eleven rules.MalformedExtension = three
  kept_is one two three four five six seven eight nine ten eleven rules.UnweighedCritical = four
  kept_is one two three four five six seven eight nine ten eleven rules.WrongIssuer = five
  kept_is one two three four five six seven eight nine ten eleven rules.NotYetValid = six
  kept_is one two three four five six seven eight nine ten eleven rules.Expired = seven
  kept_is one two three four five six seven eight nine ten eleven rules.AgainstPurpose = eight
  kept_is one two three four five six seven eight nine ten eleven rules.NotAuthority = nine
  kept_is one two three four five six seven eight nine ten eleven rules.PathTooLong = ten
  kept_is one two three four five six seven eight nine ten eleven rules.WrongSignature = eleven

-- The facts that are collected about the extensions.
module _ (moment : ℕ) (purpose : List ℕ) (cs : List PlainCertificate) (a : PlainChoice) (f : Findings) (e : f ≡ found Bound purpose (anchor_extensions a)) where
  pub keeps_well_formed : not f.malformed ≡ anchor_keeps rules.MalformedExtension moment purpose cs a
  keeps_well_formed = ap (λ (g : Findings). not g.malformed) e ∙ ap (λ b. not b) (found_malformed Bound purpose (anchor_extensions a))

  pub keeps_known : not f.unweighed_critical ≡ anchor_keeps rules.UnweighedCritical moment purpose cs a
  keeps_known = ap (λ (g : Findings). not g.unweighed_critical) e ∙ ap (λ b. not b) (found_unweighed Bound purpose (anchor_extensions a))

  pub keeps_serving : f.serves ≡ anchor_keeps rules.AgainstPurpose moment purpose cs a
  keeps_serving = ap (λ (g : Findings). g.serves) e ∙ found_serves Bound purpose (anchor_extensions a)

  pub keeps_issuing : ((length (anchor_extensions a) == 0) || (f.ca && f.certifies)) ≡ anchor_keeps rules.NotAuthority moment purpose cs a
  keeps_issuing =
      ap (λ (g : Findings). (length (anchor_extensions a) == 0) || (g.ca && g.certifies)) e
      ∙ ap (λ b. (length (anchor_extensions a) == 0) || (b && (found Bound purpose (anchor_extensions a)).certifies)) (found_ca Bound purpose (anchor_extensions a))
      ∙ ap (λ b. (length (anchor_extensions a) == 0) || (list_any (λ x. is_authority (weigh Bound x)) (anchor_extensions a) && b)) (found_certifies Bound purpose (anchor_extensions a))

  pub keeps_within : (n : ℕ) → n ≡ counted cs → is_within n f.path_len ≡ anchor_keeps rules.PathTooLong moment purpose cs a
  keeps_within n same =
      ap (λ m. is_within m f.path_len) same ∙ ap (λ (g : Findings). is_within (counted cs) g.path_len) e ∙ found_length Bound purpose (anchor_extensions a) (counted cs)

-- The first rule that is broken before that of the signature, if there is one.
module _ (moment : ℕ) (purpose : List ℕ) (cs : List PlainCertificate) (a : PlainChoice) (k : KeptRules) (same : (rule : Rule) → kept_by k rule ≡ anchor_keeps rule moment purpose cs a) where
  abbrev keeps_it : Rule → Bool
  keeps_it rule = anchor_keeps rule moment purpose cs a

  pub not_strict : (rule : Rule) → IsFirstUnsignedOf k (Some rule) → is_strict moment purpose cs a ≡ false
  not_strict rule first =
      ap (λ b. b && not (constrains_names (anchor_extensions a)))
      (false_from_ne_true _ (λ all. both_ways _ (sym (same rule) ∙ first.1) (test_of_all keeps_it all rule first.0)))

  pub breaks_rule : (rule : Rule) → IsFirstUnsignedOf k (Some rule) → breaks (limits.Anchor rule) moment purpose cs a ≡ true
  breaks_rule rule first = ap not (sym (same rule) ∙ first.1)

  pub strict_is : (b : Bool) → IsFirstUnsignedOf k None → constrains_names (anchor_extensions a) ≡ b → is_strict moment purpose cs a ≡ not b
  strict_is b kept e =
      ap (λ x. x && not (constrains_names (anchor_extensions a))) (all_of_tests keeps_it (λ rule before. sym (same rule) ∙ kept rule before)) ∙ ap not e

-- Verifiers with the same answers agree on whether a trust anchor issued a chain.
pub issues_is : (answers now : Answers) → now ≡ answers → (cs : List PlainCertificate) (a : PlainChoice) (r : Bool) → r ≡ issues_chain now cs a
    → (b : Bool) → r ≡ b → issues_chain answers cs a ≡ b
issues_is answers now same cs a r e b is = ap (λ x. issues_chain x cs a) (sym same) ∙ sym e ∙ is
