-- Goals of `reasons::lack_of_authority` that the checker doesn't prove by itself.
use Rattle.std.proofs.Common.{◌||◌, ap, not, inl, inr, refl, sym, ◌∙◌}
use Rattle.std.specs.List.{list_any}
use Rattle.std.proofs.lemmas.Bool.{or_left}
use Rattle.x509_cert_anchors.specs.Oid.Bound.{Bound}
use Rattle.x509_cert_anchors.specs.CertParts.Views.{extensions_plain}
use Rattle.cert_desk_rules.specs.declared.rule.Rule.TheVariants as rules
use Rattle.cert_desk_rules.specs.Reasons.{is_against}
use Rattle.cert_desk_rules.proofs.ExtensionLaws.{some-by}
use Rattle.cert_desk_rules.proofs.FoundLaws.{found_ca}
use Rattle.cert_desk_checking.proofs.reasons.lack_of_authority.Goals as goal

pub returns-then-not-findings-clause-told : goal.returns-then-not-findings-clause-told
returns-then-not-findings-clause-told c =
    let ca = ap (λ f. f.ca) c.in_ok-findings.ensures.found ∙ found_ca Bound c.args.purpose.now (extensions_plain c.args.extensions.now) in
    sym (or_left _ _ (ap not (sym ca) ∙ c.if-not-findings.true))

pub returns-then-not-findings-clause-first : goal.returns-then-not-findings-clause-first
returns-then-not-findings-clause-first c =
    let ca = ap (λ f. f.ca) c.in_ok-findings.ensures.found ∙ found_ca Bound c.args.purpose.now (extensions_plain c.args.extensions.now) in
    inl (refl, ap not (sym ca) ∙ c.if-not-findings.true)

pub returns-clause-told : goal.returns-clause-told
returns-clause-told c =
    let ca = ap (λ f. f.ca) c.in_ok-findings.ensures.found ∙ found_ca Bound c.args.purpose.now (extensions_plain c.args.extensions.now) in
    c.in_ok-against.ensures.told
    ∙ ap (λ b. b || list_any (is_against Bound c.args.purpose.now rules.NotAuthority) (extensions_plain c.args.extensions.now)) (sym (ap not (sym ca) ∙ c.if-not-findings.false))

pub returns-clause-first : goal.returns-clause-first
returns-clause-first c =
    let ca = ap (λ f. f.ca) c.in_ok-findings.ensures.found ∙ found_ca Bound c.args.purpose.now (extensions_plain c.args.extensions.now) in
    some-by _ c.in_ok-against.ensures.first (λ reason h. inr (ap not (sym ca) ∙ c.if-not-findings.false, h.0, h.1, h.2))
