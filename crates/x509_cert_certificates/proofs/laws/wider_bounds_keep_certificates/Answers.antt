-- Goals of `laws::wider_bounds_keep_certificates` that the checker doesn't prove by itself.
use Rattle.der_core.proofs.BoundLaws.{same_octets, spelled_wider}
use Rattle.x509_cert_certificates.proofs.Respelled.{certificates}
use Rattle.x509_cert_certificates.proofs.laws.wider_bounds_keep_certificates.Goals as goal

pub returns : goal.returns
returns c = record { spelled = λ small large limit. spelled_wider _ _ (certificates limit) small large; octets = λ small large limit. same_octets _ _ (certificates limit) small large }
