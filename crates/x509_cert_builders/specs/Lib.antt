pub mod Devices
pub mod Naming
pub mod Profiles
pub mod Refusals
pub mod SignedParts
pub mod States
pub mod Subscribers
pub mod TypeSets
pub use Rattle.x509_cert_certificates.specs as CertCertificates
pub use Rattle.x509_cert_extensions.specs as CertExtensions
pub use Rattle.x509_cert_certificates.specs.CertNames
pub use Rattle.x509_cert_certificates.specs.CertParts
