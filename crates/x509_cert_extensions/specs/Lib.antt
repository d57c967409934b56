pub mod Making
pub mod NamedBits
pub mod Reasons
pub use Rattle.x509_cert_general_names.specs as CertGeneralNames
pub use Rattle.x509_cert_policies.specs as PolicyTypes
