-- Goals of `reading::read_only` that the checker doesn't prove by itself.
use Rattle.std.proofs.Common.{ap, subst, Ok, Err}
use Rattle.std.proofs.lemmas.Result.{err_from_is_err_and}
use Rattle.der_core_values.specs.CoreHead.Shapes.{only}
use Rattle.der_core_values.specs.CoreHead.Reading.{State, Reads, read_body_at}
use Rattle.der_core_values.proofs.CoreOctets.GoingOn.{refused, gives, trails, broken_kept}
use Rattle.der_core_coding.proofs.reading.read_only.Goals as goal

pub returns-in_err-behind : goal.returns-in_err-behind
returns-in_err-behind g c =
    let p = err_from_is_err_and c.from_residual.result c.from_residual.ensures.1 in
    rw (p.1, p.2) (λ ready. refused c.args.header.tag c.in_err-behind.field-0.0.kind c.args.header.length.value (g.R.Reader.state c.args.reader.now) (only g.T.Shaped.shape) (c.in_err-behind.ensures.0 ready), broken_kept _ _ c.in_err-behind.ensures.1, c.in_err-behind.ensures.2, ap (λ (s : State). s.failed) c.in_err-behind.ensures.1)

pub returns-in_err-end_nested-in-Ok : goal.returns-in_err-end_nested-in-Ok
returns-in_err-end_nested-in-Ok g c =
    let state = g.R.Reader.state in
    let outer = state c.decode.new.reader in
    let opens = c.in_ok-behind.ensures in
    let p = err_from_is_err_and c.from_residual-in_err-end_nested-in-Ok.result c.from_residual-in_err-end_nested-in-Ok.ensures.1 in
    let P : State → Type 0 = λ x. Reads g.T.Shaped.plain x outer (Ok c.in-Ok.value) (read_body_at x (only g.T.Shaped.shape)) in
    rw (p.1, p.2) (trails c.args.header.tag (only g.T.Shaped.shape) g.T.Shaped.plain c.args.header.length.value c.in_ok-behind.behind.value (state c.args.reader.now) outer (state c.end_nested.new.self) (Ok c.in-Ok.value) c.in_err-end_nested-in-Ok.field-0.0
    opens.0 opens.1 opens.3 (subst P opens.4 c.in-Ok.ensures) c.in_err-end_nested-in-Ok.ensures)

pub returns-in_ok-end_nested-in-Ok : goal.returns-in_ok-end_nested-in-Ok
returns-in_ok-end_nested-in-Ok g c =
    let state = g.R.Reader.state in
    let outer = state c.decode.new.reader in
    let opens = c.in_ok-behind.ensures in
    let P : State → Type 0 = λ x. Reads g.T.Shaped.plain x outer (Ok c.in-Ok.value) (read_body_at x (only g.T.Shaped.shape)) in
    gives c.args.header.tag (only g.T.Shaped.shape) g.T.Shaped.plain c.args.header.length.value c.in_ok-behind.behind.value (state c.args.reader.now) outer (state c.end_nested.new.self) (Ok c.in-Ok.value)
    opens.0 opens.1 opens.3 (subst P opens.4 c.in-Ok.ensures) c.in_ok-end_nested-in-Ok.ensures

pub returns-in_ok-end_nested-in-Err : goal.returns-in_ok-end_nested-in-Err
returns-in_ok-end_nested-in-Err g c =
    let state = g.R.Reader.state in
    let outer = state c.decode.new.reader in
    let opens = c.in_ok-behind.ensures in
    let P : State → Type 0 = λ x. Reads g.T.Shaped.plain x outer (Err c.in-Err.error) (read_body_at x (only g.T.Shaped.shape)) in
    gives c.args.header.tag (only g.T.Shaped.shape) g.T.Shaped.plain c.args.header.length.value c.in_ok-behind.behind.value (state c.args.reader.now) outer (state c.end_nested-in-Err.new.self) (Err c.in-Err.error)
    opens.0 opens.1 opens.3 (subst P opens.4 c.in-Err.ensures) c.in_ok-end_nested-in-Err.ensures
