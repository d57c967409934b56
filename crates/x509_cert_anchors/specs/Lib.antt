pub mod AnchorViews
pub mod Anchors
pub mod Opened
pub use Rattle.x509_cert_certificates.specs as CertCertificates
pub use Rattle.x509_cert_general_names.specs as CertGeneralNames
pub use Rattle.x509_cert_general_names.specs.CertNames
pub use Rattle.x509_cert_policies.specs.CertParts
pub use Rattle.der_core.specs as Der
pub use Rattle.der_core.specs.Oid
pub use Rattle.x509_cert_policies.specs as PolicyTypes
pub use Rattle.x509_cert_policies.specs.Types
