-- Goals of `checking::check_chain` that the checker doesn't prove by itself.
use Rattle.std.proofs.Common.{◌≡◌, ℕ, suc, ◌+◌, ◌<◌, length, true, refl, ap, ◌∙◌, subst, arith}
use Rattle.x509_cert_anchors.specs.Oid.Bound.{Bound}
use Rattle.cert_desk_checking.specs.declared.issuer.Issuer.TheVariants as issuers
use Rattle.cert_desk_rules.specs.declared.rule.Rule.TheVariants as rules
use Rattle.cert_desk_checking.specs.Anchors.{terms_of}
use Rattle.cert_desk_rules.specs.DeskBundle.Chains.{joined}
use Rattle.cert_desk_checking.specs.Places.{IsFirstUnsigned, IsIssuer}
use Rattle.cert_desk_rules.specs.Verdicts.{all_kept_below, asked_below, asked_signature}
use Rattle.cert_desk_checking.proofs.Counts.{Rises-by, Rises-more}
use Rattle.cert_desk_checking.proofs.KeptLaws.{first_unsigned_by}
use Rattle.cert_desk_rules.proofs.MemoryLaws.{takes_at}
use Rattle.cert_desk_checking.proofs.Outcomes.{asked-is, asked_signed, asked_unsigned}
use Rattle.cert_desk_checking.proofs.Outcomes.{asks_signature, kept_below-more, refused_at}
use Rattle.cert_desk_checking.proofs.Outcomes.{stops_at, trusted_by}
use Rattle.cert_desk_rules.proofs.DeskIo.Given.{OnErr-by}
use Rattle.cert_desk_checking.proofs.PlaceLaws.{entry_at, signature_at, stands}
use Rattle.cert_desk_checking.proofs.checking.check_chain.Goals as goal

pub returns-in-Some : goal.returns-in-Some
returns-in-Some g c =
    let answers = g.J.SignatureJudge.answers c.args.judge.now in
    let t = terms_of c.args.anchors.now c.args.moment c.args.purpose.now answers in
    let cs = c.args.bundle.now.certificates in
    let s = joined Bound cs in
    let inv = c.loop-place.invariant in
    let place = c.loop-place.place in
    let within : place < length cs = omega arith in
    let entry = entry_at _ _ _ _ _ c.get.ensures.entry c.unwrap-entry.ensures in
    let at = stands cs c.args.anchors.now place c.unwrap-entry.result c.len-len.result c.loop-place.issuer c.loop-place.room entry c.len-len.ensures inv.issuer inv.room in
    let broken = subst (IsFirstUnsigned t cs s place) c.in-Some.is (first_unsigned_by _ t cs s place _ (c.in_ok-kept.ensures.judged cs c.args.anchors.now place answers s at) c.first_before_signature.ensures) in
    record {
      judged = λ stream chain. refused_at t c.args.bundle.now.limit cs place c.in-Some.rule stream chain within inv.judged broken.1 broken.2;
      kept = inv.kept;
      counted = Rises-by _ _ _ _ _ _ (asked_unsigned t cs s place c.in-Some.rule within broken) inv.counted;
      stopped = tt;
    }

pub returns-then-not-is_signed : goal.returns-then-not-is_signed
returns-then-not-is_signed g c =
    let answers = g.J.SignatureJudge.answers c.args.judge.now in
    let t = terms_of c.args.anchors.now c.args.moment c.args.purpose.now answers in
    let cs = c.args.bundle.now.certificates in
    let s = joined Bound cs in
    let inv = c.loop-place.invariant in
    let place = c.loop-place.place in
    let within : place < length cs = omega arith in
    let entry = entry_at _ _ _ _ _ c.get.ensures.entry c.unwrap-entry.ensures in
    let at = stands cs c.args.anchors.now place c.unwrap-entry.result c.len-len.result c.loop-place.issuer c.loop-place.room entry c.len-len.ensures inv.issuer inv.room in
    let kept = subst (IsFirstUnsigned t cs s place) c.in_default.is (first_unsigned_by _ t cs s place _ (c.in_ok-kept.ensures.judged cs c.args.anchors.now place answers s at) c.first_before_signature.ensures) in
    let asked = signature_at c.args.anchors.now c.args.moment c.args.purpose.now answers cs place c.unwrap-entry.result c.loop-place.issuer _ _ _ _ _ _ entry inv.issuer inv.kept c.is_signed.ensures.answered c.is_signed.ensures.counted in
    let broken = asked.0 ∙ c.if-not-is_signed.true in
    let counted = Rises-more (asked_below t cs s place) (asked_signature t cs s place) (asked_below t cs s (suc place)) _ _ _ _ _ _ (asks_signature t cs s place inv.judged kept) inv.counted asked.1 in
    record {
      judged = λ stream chain. refused_at t c.args.bundle.now.limit cs place rules.WrongSignature stream chain within inv.judged broken kept;
      kept = c.is_signed.ensures.kept ∙ inv.kept;
      counted = Rises-by _ _ _ _ _ _ (asked_signed t cs s place within broken) counted;
      stopped = tt;
    }

pub loop-place-preserved : goal.loop-place-preserved
loop-place-preserved g c =
    let answers = g.J.SignatureJudge.answers c.args.judge.now in
    let t = terms_of c.args.anchors.now c.args.moment c.args.purpose.now answers in
    let cs = c.args.bundle.now.certificates in
    let s = joined Bound cs in
    let inv = c.loop-place.invariant in
    let place = c.loop-place.place in
    let within : place < length cs = omega arith in
    let entry = entry_at _ _ _ _ _ c.get.ensures.entry c.unwrap-entry.ensures in
    let at = stands cs c.args.anchors.now place c.unwrap-entry.result c.len-len.result c.loop-place.issuer c.loop-place.room entry c.len-len.ensures inv.issuer inv.room in
    let kept = subst (IsFirstUnsigned t cs s place) c.in_default.is (first_unsigned_by _ t cs s place _ (c.in_ok-kept.ensures.judged cs c.args.anchors.now place answers s at) c.first_before_signature.ensures) in
    let asked = signature_at c.args.anchors.now c.args.moment c.args.purpose.now answers cs place c.unwrap-entry.result c.loop-place.issuer _ _ _ _ _ _ entry inv.issuer inv.kept c.is_signed.ensures.answered c.is_signed.ensures.counted in
    let counted = Rises-more (asked_below t cs s place) (asked_signature t cs s place) (asked_below t cs s (suc place)) _ _ _ _ _ _ (asks_signature t cs s place inv.judged kept) inv.counted asked.1 in
    let next : suc place ≡ place + 1 = omega arith in
    record {
      kept = c.is_signed.ensures.kept ∙ inv.kept;
      issuer = subst (λ (n : ℕ). IsIssuer cs c.args.anchors.now n (issuers.Before c.unwrap-entry.result.certificate)) next entry.certificate;
      room = c.in_ok-kept.ensures.room cs c.args.anchors.now place at;
      judged = subst (λ (n : ℕ). all_kept_below t cs s n ≡ true) next (kept_below-more t cs s place inv.judged kept (asked.0 ∙ c.if-not-is_signed.false));
      counted = Rises-by _ _ _ _ _ _ (ap (asked_below t cs s) next) counted;
    }

pub returns-then-len-eq0-clause-counted : goal.returns-then-len-eq0-clause-counted
returns-then-len-eq0-clause-counted g c =
    let answers = g.J.SignatureJudge.answers c.args.judge.now in
    let t = terms_of c.args.anchors.now c.args.moment c.args.purpose.now answers in
    let cs = c.args.bundle.now.certificates in
    let s = joined Bound cs in
    let inv = c.loop-place.invariant in
    let end : c.loop-place.place ≡ length cs = omega arith in
    Rises-by _ _ _ _ _ _ (ap (asked_below t cs s) end ∙ asked-is t cs s) inv.counted

pub returns-else-len-eq0 : goal.returns-else-len-eq0
returns-else-len-eq0 g c =
    let answers = g.J.SignatureJudge.answers c.args.judge.now in
    let t = terms_of c.args.anchors.now c.args.moment c.args.purpose.now answers in
    let cs = c.args.bundle.now.certificates in
    let s = joined Bound cs in
    let inv = c.loop-place.invariant in
    let end : c.loop-place.place ≡ length cs = omega arith in
    let some : 0 < length cs = omega arith in
    record {
      judged = λ stream chain. trusted_by t c.args.bundle.now.limit cs stream chain some (subst (λ (n : ℕ). all_kept_below t cs s n ≡ true) end inv.judged);
      kept = inv.kept;
      counted = Rises-by _ _ _ _ _ _ (ap (asked_below t cs s) end ∙ asked-is t cs s) inv.counted;
      stopped = tt;
    }

pub returns-in_err-kept-clause-stopped : goal.returns-in_err-kept-clause-stopped
returns-in_err-kept-clause-stopped g c =
    let answers = g.J.SignatureJudge.answers c.args.judge.now in
    let t = terms_of c.args.anchors.now c.args.moment c.args.purpose.now answers in
    let cs = c.args.bundle.now.certificates in
    let inv = c.loop-place.invariant in
    let within : c.loop-place.place < length cs = omega arith in
    let entry = entry_at _ _ _ _ _ c.get.ensures.entry c.unwrap-entry.ensures in
    let takes = takes_at cs c.loop-place.place _ _ entry.certificate refl c.in_err-kept.ensures.memory in
    OnErr-by c.from_residual.result _ (λ stream chain. stops_at t c.args.bundle.now.limit cs c.loop-place.place stream _ _ chain within takes inv.judged inv.counted.questions)
