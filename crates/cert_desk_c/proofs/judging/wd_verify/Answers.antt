-- Goals of `judging::wd_verify` that the checker doesn't prove by itself.
use Rattle.std.proofs.Common.{inl, sym, ◌∙◌, arith}
use Rattle.cert_desk_c.proofs.Verdicts.{judged, misasked, refused_is_told, trusted_is_told, unanswered}
use Rattle.cert_desk_c.proofs.judging.wd_verify.Goals as goal
use Rattle.cert_desk_c.proofs.judging.wd_verify.Goals.{then-limit-lt6-via-then-limit-lt6, then-limit-lt6-via-else-limit-lt6+then-anchors}

pub returns-then-limit-lt6-clause-statuses : goal.returns-then-limit-lt6-clause-statuses
returns-then-limit-lt6-clause-statuses c =
    inl (misasked c.args.answers.now c.args.anchors.now c.args.chain.now c.args.moment c.args.purpose.now c.args.limit c.code.result c.code.ensures (λ h. elim c.then-limit-lt6.branch as (λ _. ⊥) [
      | then-limit-lt6-via-then-limit-lt6 w ↦ omega (arith, h.0.0, w.if-limit-lt6)
      | then-limit-lt6-via-else-limit-lt6+then-anchors w ↦ omega (arith, h.0.1, w.if-anchors)
    ]))

pub returns-in_default-clause-statuses : goal.returns-in_default-clause-statuses
returns-in_default-clause-statuses c =
    inl (misasked c.args.answers.now c.args.anchors.now c.args.chain.now c.args.moment c.args.purpose.now c.args.limit c.code-in_default.result c.code-in_default.ensures
    (λ h. (let clash = sym (c.from_bytes.ensures.spelled h.1.0 h.1.1.2 h.1.1.0 h.1.1.1) ∙ c.in_default.is in absurd cc)))

pub returns-in-Err-clause-statuses : goal.returns-in-Err-clause-statuses
returns-in-Err-clause-statuses c =
    unanswered c.args.answers.now c.args.anchors.now c.args.chain.now c.args.moment c.args.purpose.now c.args.limit c.code-in-Err.result c.in-Err.status c.code-in-Err.ensures c.in-Err.ensures.none

pub returns-clause-statuses : goal.returns-clause-statuses
returns-clause-statuses c =
    inl (judged c.args.answers.now c.args.anchors.now c.args.chain.now c.args.moment c.args.purpose.now c.args.limit c.in-Ok-verdict_of.verdict c.tell.result c.tell.ensures.status
    ((omega arith, omega arith), (c.in-Ok.purpose, c.in-Ok.ensures.ok, c.in-Ok-verdict_of.ensures.judged)))

pub returns-clause-refused : goal.returns-clause-refused
returns-clause-refused c =
    refused_is_told c.args.answers.now c.args.anchors.now c.args.chain.now c.args.moment c.args.purpose.now c.args.limit c.in-Ok-verdict_of.verdict c.args.told.now c.tell.new.told c.tell.result c.tell.ensures.status c.tell.ensures.tells
    ((omega arith, omega arith), (c.in-Ok.purpose, c.in-Ok.ensures.ok, c.in-Ok-verdict_of.ensures.judged))

pub returns-in-Err-clause-only : goal.returns-in-Err-clause-only
returns-in-Err-clause-only c = λ given listing arcs l s a f p i n t.
    trusted_is_told c.args.answers.now c.args.anchors.now c.args.chain.now c.args.moment c.args.purpose.now c.args.limit c.code-in-Err.result (returns-in-Err-clause-statuses c) ((l, s), (arcs, (i, n, p), (given, listing, a, f, t)))

pub returns-clause-only : goal.returns-clause-only
returns-clause-only c = λ given listing arcs l s a f p i n t.
    trusted_is_told c.args.answers.now c.args.anchors.now c.args.chain.now c.args.moment c.args.purpose.now c.args.limit c.tell.result (returns-clause-statuses c) ((l, s), (arcs, (i, n, p), (given, listing, a, f, t)))
