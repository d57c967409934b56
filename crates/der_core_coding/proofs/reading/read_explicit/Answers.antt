-- Goals of `reading::read_explicit` that the checker doesn't prove by itself.
use Rattle.std.proofs.Common.{refl}
use Rattle.std.proofs.lemmas.Result.{err_from_is_err_and}
use Rattle.der_core_values.specs.CoreHead.Shapes.{nested, only}
use Rattle.der_core_values.specs.CoreOctets.Headers.{head_of}
use Rattle.der_core_values.proofs.Headed.{head_refused, head_read}
use Rattle.der_core_coding.proofs.reading.read_explicit.Goals as goal

pub returns-in_err-header : goal.returns-in_err-header
returns-in_err-header g c =
    let p = err_from_is_err_and c.from_residual.result c.from_residual.ensures.1 in
    rw (p.1, p.2) (head_refused (nested (only g.T.Shaped.shape)) c.args.tag c.args.tag refl _ g.T.Shaped.plain _ c.in_err-header.field-0.0 c.in_err-header.ensures.front)

pub returns : goal.returns
returns g c = head_read (nested (only g.T.Shaped.shape)) c.args.tag c.args.tag refl _ g.T.Shaped.plain (head_of c.in_ok-header.header) _ _ c.read_only.result c.in_ok-header.ensures.front c.in_ok-header.ensures.tag c.read_only.ensures
