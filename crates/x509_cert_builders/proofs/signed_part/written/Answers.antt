-- Goals of `signed_part::written` that the checker doesn't prove by itself.
use Rattle.std.proofs.Common.{Some, ◌∙◌}
use Rattle.std.proofs.lemmas.Result.{err_from_is_err_and}
use Rattle.x509_cert_certificates.specs.Oid.Bound.{Bound}
use Rattle.x509_cert_certificates.proofs.Der.Written.{written_valid}
use Rattle.x509_cert_certificates.specs.Certificates.{tbs_certificate}
use Rattle.x509_cert_certificates.specs.Views.{tbs_plain}
use Rattle.x509_cert_builders.specs.SignedParts.{part_shape, written_part}
use Rattle.x509_cert_builders.proofs.Faults.{or_unwritten}
use Rattle.x509_cert_builders.proofs.Encodable.{raw_octets}
use Rattle.x509_cert_builders.proofs.signed_part.written.Goals as goal

pub returns-in_err-octets-clause-refused : goal.returns-in_err-octets-clause-refused
returns-in_err-octets-clause-refused c =
    let p = err_from_is_err_and c.from_residual.result c.from_residual.ensures.1 in
    rw (p.1, p.2)
    (or_unwritten (tbs_certificate Bound (Some 21)) (written_part (tbs_plain c.args.part.now)) _ c.in_err-octets.field-0.0.kind c.in_err-octets.ensures.spelled c.in_err-octets.ensures.exact)

pub returns-clause-octets : goal.returns-clause-octets
returns-clause-octets c = c.in_ok-octets.ensures.octets.0 ∙ raw_octets (written_part (tbs_plain c.args.part.now))

pub returns-clause-valid : goal.returns-clause-valid
returns-clause-valid c = λ h. written_valid part_shape (written_part (tbs_plain c.args.part.now)) _ _ c.in_ok-octets.ensures.exact h
