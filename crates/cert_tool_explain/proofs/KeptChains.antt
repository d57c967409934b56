-- If each certificate keeps every rule, it does so at each index.
use Rattle.std.proofs.Common.{◌≡◌, ℕ, zero, suc, ◌-◌, ◌<◌, List, [], ◌∷◌, get_or, Bool, true, false, refl, sym, ap, ◌∙◌, arith}
use Rattle.std.proofs.lemmas.Bool.{and_parts, both_ways}
use Rattle.std.proofs.lemmas.List.Folds.{list_all_at}
use Rattle.cert_tool_describe.specs.CertCertificates.Certificates.{PlainCertificate}
use Rattle.cert_desk_checking.specs.DeskRules.declared.kept_rules.KeptRules.{KeptRules}
use Rattle.cert_desk_checking.specs.DeskRules.declared.rule.Rule.{Rule}
use Rattle.cert_desk_checking.specs.DeskRules.declared.rule.Rule.TheVariants as rules
use Rattle.cert_desk_checking.specs.DeskRules.Judging.{Terms, in_order, keeps_at, number}
use Rattle.cert_desk_checking.specs.DeskRules.KeptRules.{AreJudged, kept_at, kept_by}
use Rattle.cert_tool_explain.specs.KeptChains.{are_kept, keeps_each_rule}

-- The order has each rule at its number.
at_number : (rule : Rule) → get_or in_order (number rule - 1) rules.WrongSignature ≡ rule
at_number rules.AlgorithmsDiffer = refl
at_number _ = refl

within : (rule : Rule) → number rule - 1 < 11
within rules.AlgorithmsDiffer = omega arith
within _ = omega arith

kept_of : (k : KeptRules) (rule : Rule) → keeps_each_rule k ≡ true → kept_by k rule ≡ true
kept_of k rule all = by (kept_by k rule) refl
  where
    by : (b : Bool) → kept_by k rule ≡ b → kept_by k rule ≡ true
    by true is = is
    by false is = absurd (both_ways _ (list_all_at (kept_by k) in_order (number rule - 1) rules.WrongSignature (within rule) (ap (kept_by k) (at_number rule) ∙ is)) all)

kept_each : (judged : List KeptRules) → are_kept judged ≡ true → (place : ℕ) (rule : Rule) → kept_at judged place rule ≡ true
kept_each [] all place rule = refl
kept_each (k ∷ more) all zero rule = kept_of k rule (and_parts (keeps_each_rule k) (are_kept more) all).0
kept_each (k ∷ more) all (suc place) rule = kept_each more (and_parts (keeps_each_rule k) (are_kept more) all).1 place rule

-- If the results say that every rule is kept, each certificate of the chain keeps it.
pub keeps_each : (t : Terms) (cs : List PlainCertificate) (stream : List ℕ) (judged : List KeptRules) → AreJudged t cs stream judged → are_kept judged ≡ true → (place : ℕ) (rule : Rule) → keeps_at rule t cs stream place ≡ true
keeps_each t cs stream judged says all place rule = sym (says.kept place rule) ∙ kept_each judged all place rule
