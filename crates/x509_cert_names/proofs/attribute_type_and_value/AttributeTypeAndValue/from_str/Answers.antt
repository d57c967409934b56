-- Goals of `attribute_type_and_value::AttributeTypeAndValue::from_str` that the checker doesn't
-- prove by itself.
use Rattle.std.proofs.lemmas.Result.{err_from_is_err_and}
use Rattle.x509_cert_names.specs.NameTexts.{ReadsAttribute}
use Rattle.x509_cert_names.proofs.attribute_type_and_value.AttributeTypeAndValue.from_str.Goals as goal

pub returns-in_err-oid-in-Some : goal.returns-in_err-oid-in-Some
returns-in_err-oid-in-Some c =
    let p = err_from_is_err_and c.from_residual.result c.from_residual.ensures.1 in
    rw (p.1, p.2) (λ n. ReadsAttribute.no_key _ _ _ c.in-Some.ensures c.in_err-oid-in-Some.ensures)

pub returns-in_err-value-in-Some : goal.returns-in_err-value-in-Some
returns-in_err-value-in-Some c =
    let p = err_from_is_err_and c.from_residual-in_err-value-in-Some.result c.from_residual-in_err-value-in-Some.ensures.1 in
    rw (p.1, p.2) (λ n. ReadsAttribute.no_value _ _ _ _ c.in-Some.ensures c.in_ok-oid-in-Some.ensures (c.in_err-value-in-Some.ensures n))

pub returns-in-None : goal.returns-in-None
returns-in-None c = λ n. rw c.from.ensures (ReadsAttribute.no_equals c.in-None.ensures)

pub returns-in_ok-value-in-Some : goal.returns-in_ok-value-in-Some
returns-in_ok-value-in-Some c = ReadsAttribute.member _ _ _ c.in-Some.ensures c.in_ok-oid-in-Some.ensures c.in_ok-value-in-Some.ensures
