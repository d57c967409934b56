pub mod VersionOctets
pub use Rattle.der_core.proofs as Der
pub use Rattle.der_core.proofs.Oid
