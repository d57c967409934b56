-- Goals of `questions::wd_questions` that the checker doesn't prove by itself.
use Rattle.std.proofs.Common.{ℕ, List, inl, sym, subst, arith}
use Rattle.cert_desk_listing.specs.DeskIo.declared.exit_status.ExitStatus.TheVariants.{Arguments}
use Rattle.cert_desk_c.specs.Judged.{AreQuestions}
use Rattle.cert_desk_c.proofs.AskedQuestions.{asked, unasked}
use Rattle.cert_desk_c.proofs.questions.wd_questions.Goals as goal
use Rattle.cert_desk_c.proofs.questions.wd_questions.Goals.{then-limit-lt6-via-then-limit-lt6, then-limit-lt6-via-else-limit-lt6+then-anchors}

pub returns-then-limit-lt6-clause-statuses : goal.returns-then-limit-lt6-clause-statuses
returns-then-limit-lt6-clause-statuses c = unasked c.args.anchors.now c.args.chain.now c.args.limit c.args.out.now Arguments c.code.result c.code.ensures (inl (λ h. elim c.then-limit-lt6.branch as (λ _. ⊥) [
  | then-limit-lt6-via-then-limit-lt6 w ↦ omega (arith, h.0.0, w.if-limit-lt6)
  | then-limit-lt6-via-else-limit-lt6+then-anchors w ↦ omega (arith, h.0.1, w.if-anchors)
]))

pub returns-in-Err-clause-statuses : goal.returns-in-Err-clause-statuses
returns-in-Err-clause-statuses c = unasked c.args.anchors.now c.args.chain.now c.args.limit c.args.out.now c.in-Err.status c.code-in-Err.result c.code-in-Err.ensures c.in-Err.ensures.none

pub returns-clause-statuses : goal.returns-clause-statuses
returns-clause-statuses c =
    let says = subst (λ (w : List ℕ). AreQuestions c.args.anchors.now c.args.chain.now c.args.limit w) (sym c.as_bytes.ensures.value) c.in-Ok.ensures.asked in
    inl (asked c.args.anchors.now c.args.chain.now c.args.limit c.args.out.now c.as_bytes.result.now c.give.result says c.give.ensures.status c.give.ensures.fits c.give.ensures.no_room)
