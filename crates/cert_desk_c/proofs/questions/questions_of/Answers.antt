-- Goals of `questions::questions_of` that the checker doesn't prove by itself.
use Rattle.std.proofs.Common.{map}
use Rattle.std.proofs.lemmas.Result.{err_from_is_err_and}
use Rattle.cert_desk_answers.specs.DeskChecking.Anchors.{anchor_plain}
use Rattle.cert_desk_c.proofs.AskedQuestions.{no_anchors, no_questions}
use Rattle.cert_desk_c.proofs.questions.questions_of.Goals as goal

pub returns-in_err-anchors-clause-none : goal.returns-in_err-anchors-clause-none
returns-in_err-anchors-clause-none c =
    let p = err_from_is_err_and c.from_residual.result c.from_residual.ensures.1 in
    rw (p.1, p.2) (no_anchors c.args.anchors.now c.args.chain.now c.args.limit c.in_err-anchors.field-0.0 c.in_err-anchors.ensures.none)

pub returns-in_err-bundle-clause-none : goal.returns-in_err-bundle-clause-none
returns-in_err-bundle-clause-none c =
    let p = err_from_is_err_and c.from_residual-in_err-bundle.result c.from_residual-in_err-bundle.ensures.1 in
    rw (p.1, p.2) (no_questions c.args.anchors.now c.args.chain.now c.args.limit c.in_err-bundle.field-0.0 ((c.requires.limit, c.requires.short), (map anchor_plain c.in_ok-anchors.anchors.items, c.in_ok-anchors.ensures.read)) c.in_err-bundle.ensures.none)
