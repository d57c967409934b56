-- One more certificate.
use Rattle.std.proofs.Common.{◌+◌, ◌==◌, drop, string_bytes, sym, ap, ◌∙◌}
use Rattle.x509_cert_anchors.specs.Oid.Bound.{Bound}
use Rattle.x509_cert_anchors.specs.CertCertificates.Views.{certificate_plain}
use Rattle.cert_desk_checking.proofs.PlaceLaws.{entry_at}
use Rattle.cert_tool_limits.specs.Unjudged.{and_certificates, and_item, unjudged_in}
use Rattle.cert_tool_limits.proofs.UnjudgedLaws.{certificates_more}
use Rattle.cert_tool_limits.proofs.unjudged.certificates_text.Goals as goal

pub loop-place-preserved : goal.loop-place-preserved
loop-place-preserved c =
    let cs = c.args.bundle.now.certificates in
    let place = c.loop-place.place in
    let this = certificate_plain c.unwrap-entry.result.certificate.now in
    let before = string_bytes c.loop-place.items in
    let strict = c.args.is_strict in
    let purpose = c.args.purpose.now in
    let entry = entry_at Bound cs place _ _ c.get.ensures.entry c.unwrap-entry.ensures in
    let item = c.as_str.ensures.value ∙ c.in_ok-item.ensures ∙ ap (λ n. unjudged_in strict purpose ((place + 1) == n) this) c.len-len.ensures in
    let added = c.in_ok-add_item.ensures ∙ ap (and_item before) item in
    record {
      left = ap (λ w. and_certificates strict purpose w (drop (place + 1) cs)) added ∙ sym (certificates_more strict purpose before cs place this entry.certificate) ∙ c.loop-place.invariant.left;
    }
