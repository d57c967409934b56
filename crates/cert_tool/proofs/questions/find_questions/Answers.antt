-- Goals of `questions::find_questions` that the checker doesn't prove by itself.
use Rattle.std.proofs.Common.{map, inl, inr, sym, ◌∙◌, refl}
use Rattle.std.proofs.lemmas.Result.{err_from_is_err_and}
use Rattle.cert_tool_explain.specs.DeskChecking.Anchors.{anchor_plain}
use Rattle.cert_tool.proofs.questions.find_questions.Goals as goal

pub returns-in_err-anchors-clause-stopped : goal.returns-in_err-anchors-clause-stopped
returns-in_err-anchors-clause-stopped g c =
    let p = err_from_is_err_and c.from_residual.result c.from_residual.ensures.1 in
    rw p.1 (inl (c.in_err-anchors.field-0.0, p.2, c.in_err-anchors.ensures.stopped, refl))

pub returns-in-Some-clause-stopped : goal.returns-in-Some-clause-stopped
returns-in-Some-clause-stopped g c =
    inr (map anchor_plain c.in_ok-anchors.anchors.items, c.read_stream-bundle.result, c.in_ok-anchors.ensures.read, (c.read_stream-bundle.ensures.limit, c.read_stream-bundle.ensures.fed), inl (sym c.stop_of.ensures ∙ c.in-Some.is))

pub returns-clause-stopped : goal.returns-clause-stopped
returns-clause-stopped g c =
    inr (map anchor_plain c.in_ok-anchors.anchors.items, c.read_stream-bundle.result, c.in_ok-anchors.ensures.read, (c.read_stream-bundle.ensures.limit, c.read_stream-bundle.ensures.fed), inr refl)
