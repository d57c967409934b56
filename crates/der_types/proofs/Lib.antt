pub use Rattle.der_types_any.proofs.TypesNumbers.SecondsOrders
pub use Rattle.der_types_any.proofs.TypesValues.NamedSteps
pub use Rattle.der_types_any.proofs.TypesText.BmpTexts
pub use Rattle.der_types_sets.proofs.SetSteps
pub use Rattle.der_types_sets.proofs.AscendingSteps
pub use Rattle.der_types_sets.proofs.LentOrders
pub use Rattle.der_types_sets.proofs.Arranged
pub use Rattle.der_types_any.proofs.AnyLaws
