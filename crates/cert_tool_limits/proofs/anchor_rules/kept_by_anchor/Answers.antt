-- Each field is the result of one rule.
use Rattle.std.proofs.Common.{◌≡◌, ◌&&◌, ◌||◌, ◌==◌, List, length, not, refl, sym, ap, ◌∙◌}
use Rattle.x509_cert_anchors.specs.AnchorViews.{trust_anchor_plain}
use Rattle.x509_cert_anchors.specs.CertParts.Grammar.{PlainExtension}
use Rattle.x509_cert_anchors.specs.CertParts.Views.{extension_plain, extensions_plain}
use Rattle.x509_cert_anchors.specs.Oid.Bound.{Bound}
use Rattle.cert_desk_rules.specs.Findings.{found}
use Rattle.cert_desk_rules.specs.Judging.{are_distinct}
use Rattle.cert_desk_rules.proofs.Folds.{not_twice}
use Rattle.cert_tool_limits.specs.AnchorRules.{anchor_extensions}
use Rattle.cert_tool_limits.proofs.AnchorLaws.{keeps_issuing, keeps_known, keeps_serving, keeps_well_formed, keeps_within, kept_is}
use Rattle.cert_tool_limits.proofs.ListLaws.{as_many}
use Rattle.cert_tool_limits.proofs.anchor_rules.kept_by_anchor.Goals as goal

pub returns : goal.returns
returns c = λ rule.
    let cs = c.args.bundle.now.certificates in
    let a = trust_anchor_plain c.args.anchor.now in
    let moment = c.args.moment in
    let purpose = c.args.purpose.now in
    let f = c.in_ok-findings.findings in
    let all : extensions_plain c.extensions_of-extensions.result.now ≡ anchor_extensions a = c.extensions_of-extensions.ensures in
    let gathered = c.in_ok-findings.ensures.found ∙ ap (λ (es : List PlainExtension). found Bound purpose es) all in
    let none = c.is_empty.ensures ∙ ap (λ n. n == 0) (as_many extension_plain c.extensions_of-extensions.result.now ∙ ap length all) in
    kept_is _ moment purpose cs a refl
    (not_twice c.is_none.result ∙ ap not (sym c.is_none.ensures) ∙ c.in_ok-twin.ensures.distinct ∙ ap are_distinct all)
    (keeps_well_formed moment purpose cs a f gathered)
    (keeps_known moment purpose cs a f gathered)
    refl
    c.has_begun.ensures
    c.lasts.ensures
    (keeps_serving moment purpose cs a f gathered)
    (c.may_issue.ensures ∙ ap (λ b. b || (f.ca && f.certifies)) none ∙ keeps_issuing moment purpose cs a f gathered)
    (c.is_within.ensures ∙ keeps_within moment purpose cs a f gathered c.counted.result c.counted.ensures)
    refl rule
