pub mod Policies
pub mod PolicyViews
pub mod Forms
pub mod Numbers
pub mod Timestamps
pub mod Lists
pub mod Wholes
pub use Rattle.x509_cert_parts.specs as CertParts
pub use Rattle.der_core.specs as Der
pub use Rattle.der_core.specs.Oid
pub use Rattle.x509_cert_parts.specs.Types
