-- The trust anchors that the bytes encode, and the elements of the two arrays.
use Rattle.std.proofs.Common.{[], map, ap, ◌∙◌}
use Rattle.x509_cert_anchors.specs.AnchorViews.{trust_anchor_plain}
use Rattle.cert_tool_limits.specs.Unjudged.{anchors_text, and_certificates, unjudged_member}
use Rattle.cert_tool_limits.proofs.unjudged.unjudged_text.Goals as goal

pub returns : goal.returns
returns c =
    let cs = c.args.bundle.now.certificates in
    let certificates = c.as_str-of_certificates.ensures.value ∙ c.in_ok-certificates.ensures in
    let named = c.as_str-of_anchors.ensures.value ∙ c.in_ok-named.ensures ∙ ap (λ anchors. anchors_text c.args.is_strict cs (map trust_anchor_plain anchors)) c.as_slice.ensures.value in (
      map trust_anchor_plain c.in-Ok.anchors.items,
      c.in-Ok.ensures.read,
      c.in_ok-text.ensures ∙ ap (λ w. unjudged_member w c.as_str-of_anchors.result.now) certificates ∙ ap (unjudged_member (and_certificates c.args.is_strict c.args.purpose.now [] cs)) named,
    )
