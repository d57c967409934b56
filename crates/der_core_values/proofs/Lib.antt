pub mod Lists
pub mod Headed
mod NamedNumbers
mod Cited
pub use Rattle.der_core_octets.proofs.CoreHead
pub use Rattle.der_core_octets.proofs as CoreOctets
pub use Rattle.der_core_octets.proofs.Oid
