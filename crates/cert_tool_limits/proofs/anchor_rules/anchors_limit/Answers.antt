-- A trust anchor that issued the chain and breaks a limit.
use Rattle.std.proofs.Common.{◌≡◌, ◌&&◌, true, false, inl, IfSome, sym, ap, ◌∙◌, subst}
use Rattle.std.specs.Option.{is_none}
use Rattle.x509_cert_anchors.specs.AnchorViews.{trust_anchor_plain}
use Rattle.cert_tool_limits.specs.AnchorRules.{issues_chain}
use Rattle.cert_tool_limits.specs.Limits.{breaks, is_strict, is_strict_issuer}
use Rattle.cert_tool_limits.proofs.AnchorLaws.{issues_is}
use Rattle.cert_tool_limits.proofs.ListLaws.{any_in, any_no}
use Rattle.cert_tool_limits.proofs.anchor_rules.anchors_limit.Goals as goal

pub loop-anchor-preserved : goal.loop-anchor-preserved
loop-anchor-preserved g c =
    let answers = g.J.SignatureJudge.answers c.args.judge.now in
    let cs = c.args.bundle.now.certificates in
    let moment = c.args.moment in
    let purpose = c.args.purpose.now in
    let xs = c.args.anchors.now in
    let i = c.loop-anchor.anchor-index in
    let a = trust_anchor_plain c.anchor-item.result in
    let one = c.in-Some.broken in
    let inv = c.loop-anchor.invariant in
    let yes = issues_is answers _ inv.kept cs a _ c.issues_chain.ensures.answered true c.if-not-issues_chain.false in
    let lax : is_strict moment purpose cs a ≡ false = sym c.in_ok-broken.ensures.met ∙ ap is_none c.in-Some.is in
    let breaks_it = subst (λ o. IfSome o (λ l. breaks l moment purpose cs a ≡ true)) c.in-Some.is c.in_ok-broken.ensures.broken in
    record {
      kept = c.issues_chain.ensures.kept ∙ inv.kept;
      left = any_no trust_anchor_plain (is_strict_issuer answers moment purpose cs) xs i c.anchor-item.result c.loop-anchor-test.true c.anchor-item.is (ap (λ b. b && is_strict moment purpose cs a) yes ∙ lax)
          ∙ inv.left;
      broken = inl (any_in trust_anchor_plain (λ x. issues_chain answers cs x && breaks one moment purpose cs x) xs i c.anchor-item.result c.loop-anchor-test.true c.anchor-item.is (ap (λ b. b && breaks one moment purpose cs a) yes ∙ breaks_it));
    }
