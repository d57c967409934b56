mod Windows
mod Fronts
mod Defaults
mod Cited
pub use Rattle.der_core_values.proofs.CoreHead
pub use Rattle.der_core_values.proofs.CoreOctets
pub use Rattle.der_core_values.proofs as CoreValues
pub use Rattle.der_core_values.proofs.Oid
