-- Goals of `signed_certificate_timestamp::SignedCertificateTimestampTlsValue::tls_deserialize_bytes`
-- that the checker doesn't prove by itself.
use Rattle.std.proofs.lemmas.Result.{err_from_is_err_and}
use Rattle.x509_cert_policies.specs.Forms.{Form, long, exactly, vector, pair}
use Rattle.x509_cert_policies.specs.Timestamps.{signed_form}
use Rattle.x509_cert_policies.proofs.Readings.{first_fails, second_fails, both_spelled}
use Rattle.x509_cert_policies.proofs.signed_certificate_timestamp.SignedCertificateTimestampTlsValue.tls_deserialize_bytes.Goals as goal

abbrev from_extensions : Form
from_extensions = pair vector signed_form

abbrev from_timestamp : Form
from_timestamp = pair long from_extensions

pub returns-in_err-extensions-clause-err : goal.returns-in_err-extensions-clause-err
returns-in_err-extensions-clause-err c =
    let p = err_from_is_err_and c.from_residual-in_err-extensions.result c.from_residual-in_err-extensions.ensures.1 in
    rw (p.1, p.2) (
    second_fails _ (pair (exactly 32) from_timestamp) _ _ _ _ c.in_ok-version.ensures.ok (
    second_fails _ from_timestamp _ _ _ _ c.in_ok-log_id.ensures.ok (
    second_fails _ from_extensions _ _ _ _ c.in_ok-timestamp.ensures.ok (
    first_fails vector signed_form _ _ c.in_err-extensions.ensures.err))))

pub returns-in_err-signature-clause-err : goal.returns-in_err-signature-clause-err
returns-in_err-signature-clause-err c =
    let p = err_from_is_err_and c.from_residual-in_err-signature.result c.from_residual-in_err-signature.ensures.1 in
    rw (p.1, p.2) (
    second_fails _ (pair (exactly 32) from_timestamp) _ _ _ _ c.in_ok-version.ensures.ok (
    second_fails _ from_timestamp _ _ _ _ c.in_ok-log_id.ensures.ok (
    second_fails _ from_extensions _ _ _ _ c.in_ok-timestamp.ensures.ok (
    second_fails _ signed_form _ _ _ _ c.in_ok-extensions.ensures.ok c.in_err-signature.ensures.err))))

pub returns-clause-ok : goal.returns-clause-ok
returns-clause-ok c =
    both_spelled _ _ _ _ _ _ _ c.in_ok-version.ensures.ok (
    both_spelled _ _ _ _ _ _ _ c.in_ok-log_id.ensures.ok (
    both_spelled _ _ _ _ _ _ _ c.in_ok-timestamp.ensures.ok (
    both_spelled _ _ _ _ _ _ _ c.in_ok-extensions.ensures.ok c.in_ok-signature.ensures.ok)))
