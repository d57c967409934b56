pub mod Certificates
pub mod Bounds
pub mod Views
pub mod Assembling
pub use Rattle.x509_cert_names.specs.CertNameTexts
pub use Rattle.x509_cert_names.specs as CertNames
pub use Rattle.x509_cert_parts.specs as CertParts
pub use Rattle.der_core.specs as Der
pub use Rattle.der_core.specs.Oid
pub use Rattle.x509_cert_parts.specs.Types
