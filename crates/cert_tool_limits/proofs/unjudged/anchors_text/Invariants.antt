-- The arrays so far, with those of the remaining trust anchors, are all arrays.
use Rattle.std.proofs.Common.{◌≡◌, [], drop, map, string_bytes}
use Rattle.x509_cert_anchors.specs.AnchorViews.{trust_anchor_plain}
use Rattle.x509_cert_anchors.specs.CertCertificates.Views.{certificate_plain}
use Rattle.cert_tool_limits.specs.Unjudged.{and_anchors}
use Rattle.cert_tool_limits.proofs.unjudged.anchors_text.Given as goal

abbrev pub invariant-loop-anchor : goal.invariant-loop-anchor
invariant-loop-anchor l = record {
  left : and_anchors l.is_strict (certificate_plain l.certificate) (string_bytes l.items) (map trust_anchor_plain (drop l.anchor-index l.anchors))
      ≡ and_anchors l.is_strict (certificate_plain l.certificate) [] (map trust_anchor_plain l.anchors);
}
