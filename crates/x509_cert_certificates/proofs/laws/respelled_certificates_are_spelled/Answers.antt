-- Goals of `laws::respelled_certificates_are_spelled` that the checker doesn't prove by itself.
use Rattle.x509_cert_certificates.proofs.Respelled.{certificate_valid, octets_same}
use Rattle.x509_cert_certificates.proofs.laws.respelled_certificates_are_spelled.Goals as goal

pub returns : goal.returns
returns c = record { valid = certificate_valid; same = octets_same }
