-- No trust anchor so far both issued the chain and is strict. One of them breaks the limit, or none
-- issued the chain.
use Rattle.std.proofs.Common.{◌≡◌, ◌⊎◌, ◌&&◌, drop, map, true}
use Rattle.std.specs.List.{list_any}
use Rattle.x509_cert_anchors.specs.AnchorViews.{trust_anchor_plain}
use Rattle.cert_desk_rules.specs.declared.rule.Rule.TheVariants as rules
use Rattle.cert_tool_limits.specs.declared.limit.Limit.TheVariants as limits
use Rattle.cert_tool_limits.specs.AnchorRules.{issues_chain}
use Rattle.cert_tool_limits.specs.Limits.{breaks, is_strict_issuer}
use Rattle.cert_tool_limits.proofs.anchor_rules.anchors_limit.Given as goal

abbrev pub invariant-loop-anchor : goal.invariant-loop-anchor
invariant-loop-anchor g l =
    let answers = g.J.SignatureJudge.answers l.fn.judge in
    let cs = l.bundle.certificates in record {
      kept : g.J.SignatureJudge.answers l.judge ≡ answers;
      left : list_any (is_strict_issuer answers l.moment l.purpose cs) (map trust_anchor_plain (drop l.anchor-index l.anchors))
          ≡ list_any (is_strict_issuer answers l.moment l.purpose cs) (map trust_anchor_plain l.anchors);
      broken : (list_any (λ a. issues_chain answers cs a && breaks l.limit l.moment l.purpose cs a) (map trust_anchor_plain l.anchors) ≡ true)
          ⊎ ((l.limit ≡ limits.Anchor rules.WrongSignature)
          × (list_any (issues_chain answers cs) (map trust_anchor_plain (drop l.anchor-index l.anchors)) ≡ list_any (issues_chain answers cs) (map trust_anchor_plain l.anchors)));
    }
