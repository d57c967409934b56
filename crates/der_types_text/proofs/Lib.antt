pub mod BmpTexts
mod Cited
pub use Rattle.der_core.proofs as Der
