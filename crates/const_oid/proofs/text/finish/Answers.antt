-- Goals of `text::finish` that the checker doesn't prove by itself.
use Rattle.std.proofs.Common.{Err, ap, sym, ◌∙◌}
use Rattle.std.proofs.lemmas.Result.{err_from_is_err_and}
use Rattle.const_oid.specs.Bound.{Bound}
use Rattle.const_oid.specs.ArcLists.{and_then, whole_arcs}
use Rattle.const_oid.proofs.TextLaws.{text-none, text-last}
use Rattle.const_oid.proofs.text.finish.Goals as goal

pub returns-in_default : goal.returns-in_default
returns-in_default c = sym (text-none Bound 39 c.args.arcs c.args.value c.in_default.is)

pub returns-in_err-add : goal.returns-in_err-add
returns-in_err-add c =
    let p = err_from_is_err_and c.from_residual.result c.from_residual.ensures.1 in
    p.1 ∙ ap (λ e. Err e) p.2
    ∙ sym (text-last Bound 39 c.args.arcs c.args.value c.in-Some.last c.in-Some.is ∙ ap (λ r. and_then r whole_arcs) c.in_err-add.ensures)

pub returns : goal.returns
returns c = c.finish.ensures ∙ sym (text-last Bound 39 c.args.arcs c.args.value c.in-Some.last c.in-Some.is ∙ ap (λ r. and_then r whole_arcs) c.in_ok-add.ensures)
