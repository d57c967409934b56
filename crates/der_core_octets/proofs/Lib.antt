mod Magnitudes
pub mod GoingOn
pub mod LongLengths
pub mod Levels
pub mod Added
pub use Rattle.der_core_head.proofs as CoreHead
pub use Rattle.der_core_head.proofs.Oid
