-- The first broken rule, nameConstraints, or neither.
use Rattle.std.proofs.Common.{false, true, sym, ap, ◌∙◌, subst}
use Rattle.x509_cert_anchors.specs.AnchorViews.{trust_anchor_plain}
use Rattle.cert_desk_rules.specs.KeptRules.{IsFirstUnsignedOf}
use Rattle.cert_tool_limits.specs.Limits.{constrains_names}
use Rattle.cert_tool_limits.proofs.AnchorLaws.{breaks_rule, not_strict, strict_is}
use Rattle.cert_tool_limits.proofs.anchor_rules.anchor_limit.Goals as goal

pub returns-in-Some : goal.returns-in-Some
returns-in-Some c =
    let a = trust_anchor_plain c.args.anchor.now in
    let cs = c.args.bundle.now.certificates in
    let first = subst (IsFirstUnsignedOf c.in_ok-kept.kept) c.in-Some.is c.first_before_signature.ensures in
    record {
      met = sym (not_strict c.args.moment c.args.purpose.now cs a c.in_ok-kept.kept c.in_ok-kept.ensures c.in-Some.rule first);
      broken = breaks_rule c.args.moment c.args.purpose.now cs a c.in_ok-kept.kept c.in_ok-kept.ensures c.in-Some.rule first;
    }

pub returns-then-constrains_names : goal.returns-then-constrains_names
returns-then-constrains_names c =
    let a = trust_anchor_plain c.args.anchor.now in
    let cs = c.args.bundle.now.certificates in
    let none = subst (IsFirstUnsignedOf c.in_ok-kept.kept) c.in_default.is c.first_before_signature.ensures in
    let yes = ap constrains_names (sym c.extensions_of.ensures) ∙ sym c.constrains_names.ensures ∙ c.if-constrains_names.true in
    record {
      met = sym (strict_is c.args.moment c.args.purpose.now cs a c.in_ok-kept.kept c.in_ok-kept.ensures true none yes);
      broken = yes;
    }

pub returns : goal.returns
returns c =
    let a = trust_anchor_plain c.args.anchor.now in
    let cs = c.args.bundle.now.certificates in
    let none = subst (IsFirstUnsignedOf c.in_ok-kept.kept) c.in_default.is c.first_before_signature.ensures in
    let no = ap constrains_names (sym c.extensions_of.ensures) ∙ sym c.constrains_names.ensures ∙ c.if-constrains_names.false in
    record {
      met = sym (strict_is c.args.moment c.args.purpose.now cs a c.in_ok-kept.kept c.in_ok-kept.ensures false none no);
      broken = tt;
    }
