-- Goals of `reading::optional_implicit` that the checker doesn't prove by itself.
use Rattle.std.proofs.Common.{◌≡◌, refl, Ok, Err, Some, true, sym, ap, subst, ◌∙◌}
use Rattle.std.proofs.lemmas.Result.{err_from_is_err_and}
use Rattle.der_core_values.specs.CoreHead.Shapes.{tagged, begins}
use Rattle.der_core_values.specs.CoreHead.Tags.{same_tag}
use Rattle.der_core_values.specs.CoreHead.Grammar.{peek_at, opt_at}
use Rattle.der_core_values.specs.CoreHead.Reading.{State, Reads, read_at}
use Rattle.der_core_values.proofs.CoreOctets.GoingOn.{opt_stops, broken_kept}
use Rattle.der_core_coding.proofs.reading.optional_implicit.Goals as goal

pub returns-in_err-read_implicit : goal.returns-in_err-read_implicit
returns-in_err-read_implicit g c =
    let p = err_from_is_err_and c.from_residual-in_err-read_implicit.result c.from_residual-in_err-read_implicit.ensures.1 in
    let old = g.R.Reader.state c.args.reader.now in
    let shape = (tagged c.args.tag g.T.ShapedValue.content) in
    let t = c.in-Some.first in
    let peeked : peek_at old.source.encoding old.rest ≡ Ok (Some t) = c.in_ok-first.ensures.front.0 ∙ ap Ok c.in-Some.is in
    let stands : same_tag c.args.tag t ≡ true = sym c.is_same_tag.ensures ∙ c.if-is_same_tag.true in
    let P : State → Type 0 = λ s. Reads g.T.ShapedValue.value_plain s (g.R.Reader.state c.read_implicit.new.reader) (Err c.in_err-read_implicit.field-0.0) (read_at s shape) in
    let inner : P old = subst P c.in_ok-first.ensures.stays c.in_err-read_implicit.ensures in
    rw (p.1, p.2) (λ ready memory. opt_stops old.source.encoding (begins shape) (read_at old shape) old.rest t c.in_err-read_implicit.field-0.0.kind peeked stands (inner.0 ready memory), inner.1, inner.2, inner.3)

pub returns-in_err-first : goal.returns-in_err-first
unfolding opt_at
returns-in_err-first g c =
    let p = err_from_is_err_and c.from_residual.result c.from_residual.ensures.1 in
    let peeked = c.in_err-first.ensures.front in
    let failed = c.in_err-first.ensures.failed in
    rw (p.1, p.2) (λ ready memory. rw (peeked.0 ready) refl, broken_kept _ _ failed, peeked.1, ap (λ (s : State). s.failed) failed)
