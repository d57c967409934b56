pub mod OrderReading
pub mod OrdersFile
pub mod OrderValues
pub mod Reasons
pub use Rattle.x509_cert_parts.specs as CertParts
pub use Rattle.x509_cert_parts.specs.Der
pub use Rattle.x509_cert_parts.specs.Oid
pub use Rattle.x509_cert_parts.specs.Types
