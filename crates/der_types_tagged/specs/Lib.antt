pub mod Fields
pub mod Opened
pub use Rattle.der_core.specs as Der
