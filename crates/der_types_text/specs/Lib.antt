pub mod Texts
pub mod BmpChars
pub mod BmpStrings
pub mod BmpOrders
pub mod Opened
pub use Rattle.der_core.specs as Der
pub use Rattle.der_core.specs.Oid
