-- Goals of `checking::is_signed_by_anchor` that the checker doesn't prove by itself.
use Rattle.std.proofs.Common.{◌+◌, refl, sym, ◌∙◌, ap, arith}
use Rattle.x509_cert_anchors.specs.Oid.Bound.{Bound}
use Rattle.x509_cert_anchors.specs.CertCertificates.Views.{certificate_plain}
use Rattle.cert_desk_checking.specs.declared.anchor.Anchor.{Anchor}
use Rattle.cert_desk_checking.specs.Anchors.{anchor_plain}
use Rattle.cert_desk_rules.specs.Judging.{is_named}
use Rattle.cert_desk_checking.specs.Places.{signs, asked_once}
use Rattle.cert_desk_checking.proofs.AnchorSteps.{any_yes, any_no, only_one, signs_is, asked_until_yes, asked_until_no, asked_until_none}
use Rattle.cert_desk_checking.proofs.Counts.{Rises-more, Rises-by}
use Rattle.cert_desk_checking.proofs.checking.is_signed_by_anchor.Goals as goal

pub is_signed_under-requires-clause-known : goal.is_signed_under-requires-clause-known
is_signed_under-requires-clause-known g c = λ known.
    let named = is_named Bound (certificate_plain c.args.entry.now.certificate.now) in
    let both = c.is_only-known.ensures known in
    ap (λ (x : Anchor). named (anchor_plain x)) c.anchor-item.is ∙ only_one named c.args.anchors.now c.loop-anchor.anchor-index _ both.1 c.loop-anchor-test.true (c.requires.linked both.0)

pub returns-then-is_signed_under-clause-answered : goal.returns-then-is_signed_under-clause-answered
returns-then-is_signed_under-clause-answered g c =
    let inv = c.loop-anchor.invariant in
    let same = sym c.anchor-item.is in
    let yes = ap (λ (x : Anchor). signs Bound (g.J.SignatureJudge.answers c.args.judge.now) c.args.entry.now.signed.now (certificate_plain c.args.entry.now.certificate.now) (anchor_plain x)) same
    ∙ signs_is Bound _ _ _ _ _ _ _ inv.kept c.is_signed_under.ensures.answered c.if-is_signed_under.true in
    sym (any_yes _ c.args.anchors.now c.loop-anchor.anchor-index _ c.loop-anchor-test.true yes) ∙ inv.left

pub returns-then-is_signed_under-clause-counted : goal.returns-then-is_signed_under-clause-counted
returns-then-is_signed_under-clause-counted g c =
    let inv = c.loop-anchor.invariant in
    let same = sym c.anchor-item.is in
    let yes = ap (λ (x : Anchor). signs Bound (g.J.SignatureJudge.answers c.args.judge.now) c.args.entry.now.signed.now (certificate_plain c.args.entry.now.certificate.now) (anchor_plain x)) same
    ∙ signs_is Bound _ _ _ _ _ _ _ inv.kept c.is_signed_under.ensures.answered c.if-is_signed_under.true in
    let left = asked_until_yes Bound _ _ _ c.args.anchors.now c.loop-anchor.anchor-index _ c.loop-anchor-test.true yes
    ∙ ap (λ (x : Anchor). asked_once Bound (certificate_plain c.args.entry.now.certificate.now) (anchor_plain x)) same in
    Rises-more _ _ _ _ _ _ _ _ _ (ap (λ x. inv.counted.0 + x) (sym left) ∙ inv.counted.2) inv.counted.1 c.is_signed_under.ensures.counted

pub loop-anchor-preserved : goal.loop-anchor-preserved
loop-anchor-preserved g c =
    let inv = c.loop-anchor.invariant in
    let same = sym c.anchor-item.is in
    let no = ap (λ (x : Anchor). signs Bound (g.J.SignatureJudge.answers c.args.judge.now) c.args.entry.now.signed.now (certificate_plain c.args.entry.now.certificate.now) (anchor_plain x)) same
    ∙ signs_is Bound _ _ _ _ _ _ _ inv.kept c.is_signed_under.ensures.answered c.if-is_signed_under.false in
    let once = ap (λ (x : Anchor). asked_once Bound (certificate_plain c.args.entry.now.certificate.now) (anchor_plain x)) same in
    let left = asked_until_no Bound _ _ _ c.args.anchors.now c.loop-anchor.anchor-index _ c.loop-anchor-test.true no in
    record {
      kept = c.is_signed_under.ensures.kept ∙ inv.kept;
      left = any_no _ c.args.anchors.now c.loop-anchor.anchor-index _ c.loop-anchor-test.true no ∙ inv.left;
      counted = (
        inv.counted.0 + _,
        Rises-more _ _ _ _ _ _ _ _ _ refl inv.counted.1 c.is_signed_under.ensures.counted,
        omega (arith, left, once, inv.counted.2),
      );
    }

pub returns-clause-counted : goal.returns-clause-counted
returns-clause-counted g c =
    let inv = c.loop-anchor.invariant in
    let left = asked_until_none Bound (g.J.SignatureJudge.answers c.args.judge.now) c.args.entry.now.signed.now (certificate_plain c.args.entry.now.certificate.now) c.args.anchors.now c.loop-anchor.anchor-index (omega arith) in
    Rises-by _ _ _ _ _ _ (omega (arith, left, inv.counted.2)) inv.counted.1
