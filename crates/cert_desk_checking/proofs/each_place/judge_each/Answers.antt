-- Goals of `each_place::judge_each` that the checker doesn't prove by itself.
use Rattle.std.proofs.Common.{◌≡◌, ℕ, suc, ◌+◌, ◌<◌, length, sym, ap, ◌∙◌, subst, arith}
use Rattle.x509_cert_anchors.specs.Oid.Bound.{Bound}
use Rattle.cert_desk_checking.specs.declared.issuer.Issuer.TheVariants as issuers
use Rattle.cert_desk_checking.specs.Anchors.{terms_of}
use Rattle.cert_desk_rules.specs.DeskBundle.Chains.{joined}
use Rattle.cert_desk_rules.specs.Verdicts.{raised}
use Rattle.cert_desk_checking.specs.Places.{IsIssuer, asked_each}
use Rattle.cert_desk_checking.proofs.EachPlace.{SaysBefore, all_said, counted-more, says-more}
use Rattle.cert_desk_checking.proofs.KeptLaws.{all_say}
use Rattle.cert_desk_checking.proofs.PlaceLaws.{entry_at, signature_at, stands}
use Rattle.cert_desk_rules.proofs.DeskIo.Given.{OnErr-by}
use Rattle.cert_desk_checking.proofs.each_place.judge_each.Goals as goal

pub loop-place-preserved : goal.loop-place-preserved
loop-place-preserved g c =
    let answers = g.J.SignatureJudge.answers c.args.judge.now in
    let t = terms_of c.args.anchors.now c.args.moment c.args.purpose.now answers in
    let cs = c.args.bundle.now.certificates in
    let s = joined Bound cs in
    let inv = c.loop-place.invariant in
    let place = c.loop-place.place in
    let entry = entry_at _ _ _ _ _ c.get.ensures.entry c.unwrap-entry.ensures in
    let at = stands cs c.args.anchors.now place c.unwrap-entry.result c.len-len.result c.loop-place.issuer c.loop-place.room entry c.len-len.ensures inv.issuer inv.room in
    let asked = signature_at c.args.anchors.now c.args.moment c.args.purpose.now answers cs place c.unwrap-entry.result c.loop-place.issuer _ _ _ _ _ _ entry inv.issuer inv.kept c.is_signed-signed.ensures.answered c.is_signed-signed.ensures.counted in
    let says = all_say _ t cs s place _ (c.in_ok-kept.ensures.judged cs c.args.anchors.now place answers s at) (sym asked.0) in
    let next : suc place ≡ place + 1 = omega arith in
    record {
      kept = c.is_signed-signed.ensures.kept ∙ inv.kept;
      issuer = subst (λ (n : ℕ). IsIssuer cs c.args.anchors.now n (issuers.Before c.unwrap-entry.result.certificate)) next entry.certificate;
      room = c.in_ok-kept.ensures.room cs c.args.anchors.now place at;
      said = subst (λ xs. SaysBefore t cs s xs (place + 1)) (sym c.in_ok-push.ensures.items) (says-more t cs s c.loop-place.judged.items place _ says inv.said);
      counted = counted-more t cs s place _ _ _ _ _ _ inv.counted asked.1;
    }

pub returns : goal.returns
returns g c =
    let t = terms_of c.args.anchors.now c.args.moment c.args.purpose.now (g.J.SignatureJudge.answers c.args.judge.now) in
    let s = joined Bound c.args.bundle.now.certificates in
    let inv = c.loop-place.invariant in
    let end : c.loop-place.place ≡ length c.args.bundle.now.certificates = omega arith in
    record {
      judged = all_said t c.args.bundle.now.certificates s _ c.loop-place.place end inv.said;
      counted = inv.counted.questions ∙ ap (λ n. raised (g.J.SignatureJudge.questions c.args.judge.now) (asked_each t c.args.bundle.now.certificates s n)) end;
      stopped = tt;
      kept = inv.kept;
    }

pub returns-in_err-kept-clause-stopped : goal.returns-in_err-kept-clause-stopped
returns-in_err-kept-clause-stopped g c =
    let answers = g.J.SignatureJudge.answers c.args.judge.now in
    let t = terms_of c.args.anchors.now c.args.moment c.args.purpose.now answers in
    let cs = c.args.bundle.now.certificates in
    let inv = c.loop-place.invariant in
    let place = c.loop-place.place in
    let within : place < length cs = omega arith in
    let entry = entry_at _ _ _ _ _ c.get.ensures.entry c.unwrap-entry.ensures in
    let asked = signature_at c.args.anchors.now c.args.moment c.args.purpose.now answers cs place c.unwrap-entry.result c.loop-place.issuer _ _ _ _ _ _ entry inv.issuer inv.kept c.is_signed-signed.ensures.answered c.is_signed-signed.ensures.counted in
    OnErr-by c.from_residual.result _ (place + 1, omega arith, (counted-more t cs (joined Bound cs) place _ _ _ _ _ _ inv.counted asked.1).questions)

pub returns-in_err-push-clause-stopped : goal.returns-in_err-push-clause-stopped
returns-in_err-push-clause-stopped g c =
    let answers = g.J.SignatureJudge.answers c.args.judge.now in
    let t = terms_of c.args.anchors.now c.args.moment c.args.purpose.now answers in
    let cs = c.args.bundle.now.certificates in
    let inv = c.loop-place.invariant in
    let place = c.loop-place.place in
    let within : place < length cs = omega arith in
    let entry = entry_at _ _ _ _ _ c.get.ensures.entry c.unwrap-entry.ensures in
    let asked = signature_at c.args.anchors.now c.args.moment c.args.purpose.now answers cs place c.unwrap-entry.result c.loop-place.issuer _ _ _ _ _ _ entry inv.issuer inv.kept c.is_signed-signed.ensures.answered c.is_signed-signed.ensures.counted in
    OnErr-by c.from_residual-in_err-push.result _ (place + 1, omega arith, (counted-more t cs (joined Bound cs) place _ _ _ _ _ _ inv.counted asked.1).questions)
