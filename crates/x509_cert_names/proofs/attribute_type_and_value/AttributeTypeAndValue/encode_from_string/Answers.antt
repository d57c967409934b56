-- Goals of `attribute_type_and_value::AttributeTypeAndValue::encode_from_string` that the checker
-- doesn't prove by itself.
use Rattle.std.proofs.lemmas.Result.{err_from_is_err_and}
use Rattle.x509_cert_names.specs.NameTexts.{ReadsEncoding}
use Rattle.x509_cert_names.proofs.attribute_type_and_value.AttributeTypeAndValue.encode_from_string.Goals as goal

pub returns-in_err-attribute : goal.returns-in_err-attribute
returns-in_err-attribute c =
    let p = err_from_is_err_and c.from_residual.result c.from_residual.ensures.1 in
    rw (p.1, p.2) (λ n. ReadsEncoding.refused _ (c.in_err-attribute.ensures n))

pub returns-in_err-octets : goal.returns-in_err-octets
returns-in_err-octets c =
    let p = err_from_is_err_and c.from_residual-in_err-octets.result c.from_residual-in_err-octets.ensures.1 in
    rw (p.1, p.2) (λ n. ReadsEncoding.unwritten c.in_ok-attribute.attribute _ c.in_ok-attribute.ensures (c.in_err-octets.ensures.exact n))

pub returns : goal.returns
returns c = rw c.in_ok-octets.ensures.octets.0 (ReadsEncoding.written c.in_ok-attribute.attribute c.in_ok-attribute.ensures)
