-- Goals of `judging::verdict_of` that the checker doesn't prove by itself.
use Rattle.std.proofs.Common.{◌≡◌, ℕ, List, map, Ok, sym, ap, ◌∙◌}
use Rattle.std.proofs.lemmas.Result.{err_from_is_err_and}
use Rattle.cert_desk_checking.specs.declared.anchor_fault.AnchorFault.{AnchorFault}
use Rattle.cert_desk_checking.specs.Anchors.{anchor_plain, purpose_plain}
use Rattle.cert_desk_checking.specs.DeskRules.Answers.{answer_plain, only_yes_to}
use Rattle.cert_desk_checking.specs.DeskRules.Judges.{judge_answers}
use Rattle.cert_desk_checking.specs.DeskRules.Judging.{PlainAnchor}
use Rattle.cert_desk_checking.specs.DeskRules.Questions.{Question}
use Rattle.cert_desk_answers.specs.declared.line_fault.LineFault.{LineFault}
use Rattle.cert_desk_answers.proofs.Judged.{ok_is, only_memory, trusted_by, unanswered_by}
use Rattle.cert_desk_answers.proofs.judging.verdict_of.Goals as goal

pub returns-in_err-anchors-clause-only : goal.returns-in_err-anchors-clause-only
returns-in_err-anchors-clause-only c = λ given listing a f t.
    let p = err_from_is_err_and c.from_residual.result c.from_residual.ensures.1 in
    rw (p.1, p.2) (only_memory c.in_err-anchors.field-0.0 (λ none. none given a) c.in_err-anchors.ensures.none)

pub returns-in_err-anchors-clause-none : goal.returns-in_err-anchors-clause-none
returns-in_err-anchors-clause-none c =
    let p = err_from_is_err_and c.from_residual.result c.from_residual.ensures.1 in
    rw (p.1, p.2) (unanswered_by c.in_err-anchors.field-0.0 (λ none given. none given.0 given.2) c.in_err-anchors.ensures.none)

pub returns-in-Ok-check-clause-only : goal.returns-in-Ok-check-clause-only
returns-in-Ok-check-clause-only c = λ given listing a f t.
    let anchors = map anchor_plain c.in_ok-anchors.anchors.items in
    let answers = map answer_plain c.in-Ok.answers.items in
    let same : given ≡ anchors = ok_is (List PlainAnchor) (ℕ × AnchorFault) given anchors
    (c.one_anchor_file.ensures c.args.anchors.now (Ok given) (Ok anchors) a c.in_ok-anchors.ensures.read) in
    let all : listing ≡ answers = ok_is (List Question) (ℕ × LineFault) listing answers (sym f ∙ c.in-Ok.ensures.read) in
    c.in-Ok-check.ensures.trusted c.args.chain.now c.in_ok-bundle.ensures.reads
    (trusted_by given (map anchor_plain c.as_slice.result.now) c.args.moment (purpose_plain c.args.purpose.now) (only_yes_to listing) (judge_answers c.new-judge.result)
    c.args.limit c.in_ok-bundle.bundle.limit c.args.chain.now
    (same ∙ sym (ap (λ xs. map anchor_plain xs) c.as_slice.ensures.value)) (ap only_yes_to all ∙ sym c.new-judge.ensures.answers) (sym c.in_ok-bundle.ensures.limit) t)
