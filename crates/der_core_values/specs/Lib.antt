pub mod Both
pub mod Same
pub mod Choices
pub mod Memory
pub mod Numbered
pub mod Opened
pub use Rattle.der_core_octets.specs.CoreHead
pub use Rattle.der_core_octets.specs as CoreOctets
pub use Rattle.der_core_octets.specs.Oid
