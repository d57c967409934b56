-- Goals of `request_builder::attribute_for` that the checker doesn't prove by itself.
use Rattle.std.proofs.Common.{sym}
use Rattle.std.proofs.lemmas.Result.{err_from_is_err_and}
use Rattle.x509_cert.proofs.RequestParts.{not_asked, same_reason}
use Rattle.x509_cert.proofs.request_builder.attribute_for.Goals as goal

pub returns-in_err-request-clause-refused : goal.returns-in_err-request-clause-refused
returns-in_err-request-clause-refused c =
    let p = err_from_is_err_and c.from_residual.result c.from_residual.ensures.1 in
    rw (p.1, p.2) (not_asked _ c.in_err-request.field-0.0 c.in_err-request.ensures)

pub returns-in_err-_octets-clause-refused : goal.returns-in_err-_octets-clause-refused
returns-in_err-_octets-clause-refused c =
    let p = err_from_is_err_and c.from_residual-in_err-_octets.result c.from_residual-in_err-_octets.ensures.1 in
    rw (p.1, p.2) (same_reason _ _ c.in_err-_octets.field-0.0 (sym c.in_ok-request.ensures) c.in_err-_octets.ensures.refused)
