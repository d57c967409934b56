pub mod Respelled
pub mod Places
mod RowOrders
pub use Rattle.x509_cert_names.proofs as CertNames
pub use Rattle.der_core.proofs as Der
pub use Rattle.der_core.proofs.Oid
