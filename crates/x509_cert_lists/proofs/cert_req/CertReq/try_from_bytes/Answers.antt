-- Goals of `cert_req::CertReq::try_from_bytes` that the checker doesn't prove by itself.
use Rattle.std.proofs.Common.{refl}
use Rattle.x509_cert_lists.proofs.cert_req.CertReq.try_from_bytes.Goals as goal

pub returns-clause-refused : goal.returns-clause-refused
returns-clause-refused c = c.from_der.ensures.refused refl refl
