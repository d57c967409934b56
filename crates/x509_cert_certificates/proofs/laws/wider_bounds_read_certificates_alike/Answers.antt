-- Goals of `laws::wider_bounds_read_certificates_alike` that the checker doesn't prove by itself.
use Rattle.der_core.proofs.BoundLaws.{front_wider, whole_wider}
use Rattle.x509_cert_certificates.proofs.Respelled.{certificates}
use Rattle.x509_cert_certificates.proofs.laws.wider_bounds_read_certificates_alike.Goals as goal

pub returns : goal.returns
returns c = record { whole = λ small large limit. whole_wider _ _ (certificates limit) small large; front = λ small large limit. front_wider _ _ (certificates limit) small large }
