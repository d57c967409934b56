-- Goals of `list_writing::written` that the checker doesn't prove by itself.
use Rattle.std.proofs.lemmas.Result.{err_from_is_err_and}
use Rattle.x509_cert_builders.proofs.Faults.{or_unwritten}
use Rattle.x509_cert.proofs.list_writing.written.Goals as goal

pub returns-in_err-octets-clause-refused : goal.returns-in_err-octets-clause-refused
returns-in_err-octets-clause-refused g c =
    let p = err_from_is_err_and c.from_residual.result c.from_residual.ensures.1 in
    rw (p.1, p.2)
    (or_unwritten g.T.Shaped.shape (g.T.Shaped.written c.args.value.now) _ c.in_err-octets.field-0.0.kind c.in_err-octets.ensures.spelled c.in_err-octets.ensures.exact)
