-- Lemmas of other crates that attributes of this crate cite.
pub use Rattle.der_types.proofs.BmpTexts.{all_within, any_read}
pub use Rattle.der_core.proofs.Added.{none_added}
