pub mod Readings
pub use Rattle.x509_cert_parts.proofs as CertParts
pub use Rattle.der_core.proofs as Der
