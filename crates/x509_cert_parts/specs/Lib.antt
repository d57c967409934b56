pub mod Grammar
pub mod Respelling
pub mod SerialNumbers
pub mod Drawing
pub mod Texts
pub mod Times
pub mod Views
pub mod ExtensionSearch
pub mod ExtensionTypes
pub mod Opened
pub use Rattle.der_core.specs as Der
pub use Rattle.der_core.specs.Oid
pub use Rattle.der_types.specs as Types
