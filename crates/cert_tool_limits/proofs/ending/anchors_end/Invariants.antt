-- Each trust anchor so far that issued the chain ends, so the result is that of the remaining ones.
use Rattle.std.proofs.Common.{◌≡◌, drop, map}
use Rattle.x509_cert_anchors.specs.AnchorViews.{trust_anchor_plain}
use Rattle.cert_tool_limits.specs.Limits.{anchors_end}
use Rattle.cert_tool_limits.proofs.ending.anchors_end.Given as goal

abbrev pub invariant-loop-anchor : goal.invariant-loop-anchor
invariant-loop-anchor g l = record {
  kept : g.J.SignatureJudge.answers l.judge ≡ g.J.SignatureJudge.answers l.fn.judge;
  left : anchors_end (g.J.SignatureJudge.answers l.fn.judge) l.days l.moment l.bundle.certificates (map trust_anchor_plain (drop l.anchor-index l.anchors))
      ≡ anchors_end (g.J.SignatureJudge.answers l.fn.judge) l.days l.moment l.bundle.certificates (map trust_anchor_plain l.anchors);
}
