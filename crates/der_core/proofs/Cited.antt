-- Lemmas of other crates that attributes of this crate cite.
pub use Rattle.der_core_coding.proofs.CoreHead.TagLaws.{tag_forms}
pub use Rattle.der_core_coding.proofs.CoreOctets.Added.{first_added, value_then_added}
