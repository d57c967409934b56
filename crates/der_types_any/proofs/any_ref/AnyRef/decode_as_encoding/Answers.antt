-- Goals of `any_ref::AnyRef::decode_as_encoding` that the checker doesn't prove by itself.
use Rattle.std.proofs.Common.{◌≡◌, true, false, ap, rules}
use Rattle.std.proofs.lemmas.Result.{err_from_is_err_and}
use Rattle.der_types_text.specs.Der.Tags.{same_tag}
use Rattle.der_types_text.specs.Der.Reading.{State}
use Rattle.der_types_any.specs.Anys.{any_lent}
use Rattle.der_types_any.proofs.AnyLaws.{read_ok, read_err}
use Rattle.der_types_any.proofs.any_ref.AnyRef.decode_as_encoding.Goals as goal

pub returns : goal.returns
returns g c =
    let reader = c.in_ok-reader.ensures.ok.1 in
    let same : same_tag c.args.self.now.tag g.T.FixedTag.fixed_tag ≡ true = search rules in
    read_ok c.args.encoding_rules g.T.FixedTag.fixed_tag g.T.ShapedValue.content (any_lent c.args.self.now) (g.T.ShapedValue.value_plain c.in_ok-value.value) c.decode_value.new.reader.rest c.in_ok-reader.reader.source.encoding c.header.result.tag c.header.result.length.value
    c.in_ok-reader.reader.room c.in_ok-reader.reader.rest (ap (λ (s : State). s.source.encoding) reader) c.header.ensures.tag c.header.ensures.length (ap (λ (s : State). s.room) reader) (ap (λ (s : State). s.rest) reader) same c.in_ok-value.ensures.0

pub returns-in_err-value : goal.returns-in_err-value
returns-in_err-value g c =
    let reader = c.in_ok-reader.ensures.ok.1 in
    let ready : c.in_ok-reader.reader.failed ≡ false = ap (λ (s : State). s.failed) reader in
    let same : same_tag c.args.self.now.tag g.T.FixedTag.fixed_tag ≡ true = search rules in
    let p = err_from_is_err_and c.from_residual-in_err-value.result c.from_residual-in_err-value.ensures.1 in
    rw (p.1, p.2)
    (read_err c.args.encoding_rules g.T.FixedTag.fixed_tag g.T.ShapedValue.content (any_lent c.args.self.now) _ c.in_ok-reader.reader.source.encoding c.header.result.tag c.header.result.length.value c.in_ok-reader.reader.room c.in_ok-reader.reader.rest
    (ap (λ (s : State). s.source.encoding) reader) c.header.ensures.tag c.header.ensures.length (ap (λ (s : State). s.room) reader) (ap (λ (s : State). s.rest) reader) same (c.in_err-value.ensures.0 ready))
