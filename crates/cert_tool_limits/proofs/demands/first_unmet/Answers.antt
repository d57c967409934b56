-- The limit that a trust anchor breaks.
use Rattle.std.proofs.Common.{IfSome, map, subst}
use Rattle.x509_cert_anchors.specs.AnchorViews.{trust_anchor_plain}
use Rattle.cert_tool_limits.specs.Limits.{IsBroken}
use Rattle.cert_tool_limits.proofs.DemandLaws.{unmet_by_anchor}
use Rattle.cert_tool_limits.proofs.demands.first_unmet.Goals as goal

pub returns-in-Some-2-clause-unmet : goal.returns-in-Some-2-clause-unmet
returns-in-Some-2-clause-unmet g c =
    let answers = g.J.SignatureJudge.answers c.args.judge.now in
    let cs = c.args.bundle.now.certificates in
    let anchors = map trust_anchor_plain c.args.anchors.now in
    unmet_by_anchor c.args.host answers c.args.moment c.args.purpose.now cs anchors c.in-Some-2.limit
    (subst (λ o. IfSome o (IsBroken answers c.args.moment c.args.purpose.now cs anchors)) c.in-Some-2.is c.in_ok-limit.ensures.broken)
