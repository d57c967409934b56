pub mod Slices
pub mod Sequences
pub mod Steps
pub mod Wholes
pub mod Defaults
pub mod Opened
pub use Rattle.der_core_values.specs.CoreHead
pub use Rattle.der_core_values.specs.CoreOctets
pub use Rattle.der_core_values.specs as CoreValues
pub use Rattle.der_core_values.specs.Oid
