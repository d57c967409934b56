pub mod Addresses
pub mod GeneralNameViews
pub mod GeneralNames
pub mod KeyIdentifiers
pub mod Modules
pub mod NamedBits
pub use Rattle.x509_cert_names.specs as CertNames
