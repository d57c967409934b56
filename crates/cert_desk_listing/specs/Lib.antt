pub mod Kinds
pub mod Parts
pub mod Listing
pub mod Shown
pub use Rattle.x509_cert_certificates.specs as CertCertificates
pub use Rattle.x509_cert_lists.specs.CertNames
pub use Rattle.x509_cert_lists.specs.Der
pub use Rattle.cert_desk_io.specs as DeskIo
pub use Rattle.x509_cert_lists.specs.Oid
