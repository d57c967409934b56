-- The subject of a certificate.
use Rattle.std.proofs.Common.{ℕ}
use Rattle.cert_desk_checking.specs.Der.Shapes.{IsValid, IsContent, IsBody}
use Rattle.cert_desk_checking.specs.CertCertificates.Certificates.{PlainCertificate, raw_certificate, subject}
use Rattle.cert_desk_checking.specs.CertCertificates.CertNames.Names.{name}

-- The subject of a valid certificate is valid.
pub valid_subject : (bound : ℕ) (c : PlainCertificate) → IsValid (raw_certificate bound) c → IsValid (name bound) (subject c)
unfolding IsValid IsContent IsBody
valid_subject bound c h = h.0.0.0.1.1.1.1.1.0
