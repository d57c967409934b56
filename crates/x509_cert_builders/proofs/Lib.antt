pub mod Encodable
pub mod Faults
pub mod Subjects
mod Cited
pub use Rattle.x509_cert_certificates.proofs as CertCertificates
pub use Rattle.x509_cert_certificates.proofs.CertNames
