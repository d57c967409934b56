pub mod AnyLaws
mod Cited
pub use Rattle.der_types_numbers.proofs as TypesNumbers
pub use Rattle.der_types_text.proofs as TypesText
pub use Rattle.der_types_values.proofs as TypesValues
