pub mod Respelled
pub mod ValueEquality
pub mod Texts
pub mod PlainFields
mod Cited
pub use Rattle.der_types.proofs as Types
