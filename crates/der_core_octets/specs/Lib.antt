pub mod Held
pub mod Fronts
pub mod Numbers
pub mod Places
pub mod Nesting
pub mod Outputs
pub mod Parts
pub mod Pieces
pub mod Headers
pub mod LoneLengths
pub use Rattle.der_core_head.specs as CoreHead
pub use Rattle.der_core_head.specs.Oid
