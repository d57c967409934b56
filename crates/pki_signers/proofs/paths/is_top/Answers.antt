-- Goals of `paths::is_top`: the certificate is self-issued, or isn't.
use Rattle.std.proofs.Common.{Bool, ◌||◌, map, sym, ap, ◌∙◌}
use Rattle.std.specs.List.{list_any}
use Rattle.cert_desk_checking.specs.Oid.Bound.{Bound}
use Rattle.cert_desk_checking.specs.Anchors.{anchor_plain}
use Rattle.cert_desk_checking.specs.CertCertificates.Certificates.{tbs_subject}
use Rattle.cert_desk_checking.specs.CertCertificates.Views.{certificate_plain}
use Rattle.cert_desk_checking.specs.DeskRules.Judging.{is_named}
use Rattle.cert_desk_checking.proofs.AnchorSteps.{same_name_is}
use Rattle.pki_signers.proofs.paths.is_top.Goals as goal

pub returns-then-is_issued_by : goal.returns-then-is_issued_by
returns-then-is_issued_by c =
    let own = same_name_is Bound _ _ _ _ _ c.is_issued_by.ensures (c.subject.ensures ∙ ap tbs_subject c.tbs_certificate.ensures) c.if-is_issued_by.true in
    sym (ap (λ (b : Bool). b || list_any (is_named Bound (certificate_plain c.args.certificate.now)) (map anchor_plain c.args.anchors.now)) own)

pub returns : goal.returns
returns c =
    let own = same_name_is Bound _ _ _ _ _ c.is_issued_by.ensures (c.subject.ensures ∙ ap tbs_subject c.tbs_certificate.ensures) c.if-is_issued_by.false in
    c.is_anchored.ensures ∙ sym (ap (λ (b : Bool). b || list_any (is_named Bound (certificate_plain c.args.certificate.now)) (map anchor_plain c.args.anchors.now)) own)
