-- Goals of `decode::decode_tagged` that the checker doesn't prove by itself.
use Rattle.std.proofs.lemmas.Result.{err_from_is_err_and}
use Rattle.der_core_octets.specs.Headers.{head_of}
use Rattle.der_core_values.proofs.Headed.{head_refused, head_read}
use Rattle.der_core_values.proofs.decode.decode_tagged.Goals as goal

pub returns-in_err-header : goal.returns-in_err-header
returns-in_err-header g c =
    let p = err_from_is_err_and c.from_residual.result c.from_residual.ensures.1 in
    rw (p.1, p.2) (head_refused g.T.ShapedValue.content _ g.T.FixedTag.fixed_tag c.tag.ensures _ g.T.ShapedValue.value_plain _ c.in_err-header.field-0.0 c.in_err-header.ensures.front)

pub returns : goal.returns
returns g c =
    head_read g.T.ShapedValue.content _ g.T.FixedTag.fixed_tag c.tag.ensures _ g.T.ShapedValue.value_plain (head_of c.in_ok-header.header) _ _ c.decode_value.result c.in_ok-header.ensures.front c.in_ok-header.ensures.tag
    c.decode_value.ensures
