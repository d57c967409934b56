-- Goals of `certificate::CertificateInner::from_der` that the checker doesn't prove by itself.
use Rattle.std.proofs.Common.{refl}
use Rattle.x509_cert_certificates.proofs.certificate.CertificateInner.from_der.Goals as goal

pub returns-clause-refused : goal.returns-clause-refused
returns-clause-refused g c = c.from_der.ensures.refused refl refl
