pub mod Decoding
pub mod Series
pub mod Chains
pub mod FaultNames
pub mod Faults
pub mod Streams
pub mod Entries
pub mod Headers
pub mod Locations
pub mod Rests
pub mod Steps
pub mod FirstFaults
pub use Rattle.x509_cert_certificates.specs as CertCertificates
pub use Rattle.x509_cert_certificates.specs.CertNames
pub use Rattle.x509_cert_certificates.specs.CertParts
pub use Rattle.x509_cert_certificates.specs.Der
pub use Rattle.cert_desk_io.specs as DeskIo
pub use Rattle.x509_cert_certificates.specs.Oid
pub use Rattle.x509_cert_certificates.specs.Types
