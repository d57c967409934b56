pub use Rattle.x509_cert_parts.specs as CertParts
pub use Rattle.x509_cert_parts.specs.Types
