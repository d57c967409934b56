-- Lemmas of other crates that `using` attributes in this crate name.
pub use Rattle.der_core.proofs.Added.{none_added}
