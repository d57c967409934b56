-- Goals of `paths::is_anchored` that the checker doesn't prove by itself.
use Rattle.std.proofs.Common.{sym, ap, ◌∙◌}
use Rattle.cert_desk_checking.specs.Oid.Bound.{Bound}
use Rattle.cert_desk_checking.specs.CertCertificates.Views.{certificate_plain}
use Rattle.cert_desk_checking.specs.declared.anchor.Anchor.{Anchor}
use Rattle.cert_desk_checking.specs.Anchors.{anchor_plain}
use Rattle.cert_desk_checking.specs.DeskRules.Judging.{is_named}
use Rattle.cert_desk_checking.proofs.AnchorSteps.{any_yes, any_no, same_name_is}
use Rattle.pki_signers.proofs.paths.is_anchored.Goals as goal

pub returns-then-is_issued_by : goal.returns-then-is_issued_by
returns-then-is_issued_by c =
    let passes = ap (λ (x : Anchor). is_named Bound (certificate_plain c.args.certificate.now) (anchor_plain x)) (sym c.anchor-item.is)
    ∙ same_name_is Bound _ _ _ _ _ c.is_issued_by.ensures c.name.ensures c.if-is_issued_by.true in
    sym (any_yes _ c.args.anchors.now c.loop-anchor.anchor-index _ c.loop-anchor-test.true passes) ∙ c.loop-anchor.invariant.left

pub loop-anchor-preserved : goal.loop-anchor-preserved
loop-anchor-preserved c =
    let fails = ap (λ (x : Anchor). is_named Bound (certificate_plain c.args.certificate.now) (anchor_plain x)) (sym c.anchor-item.is)
    ∙ same_name_is Bound _ _ _ _ _ c.is_issued_by.ensures c.name.ensures c.if-is_issued_by.false in
    record { left = any_no _ c.args.anchors.now c.loop-anchor.anchor-index _ c.loop-anchor-test.true fails ∙ c.loop-anchor.invariant.left }
