-- Lemmas of other crates that attributes of this crate cite.
pub use Rattle.der_types_text.proofs.Der.TagLaws.{same_tags}
pub use Rattle.der_types_text.proofs.Der.Added.{none_added}
