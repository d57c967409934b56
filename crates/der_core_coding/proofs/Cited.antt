-- Lemmas of other crates that attributes of this crate cite.
pub use Rattle.der_core_values.proofs.CoreHead.IntegerLaws.{listed}
pub use Rattle.der_core_values.proofs.CoreOctets.Added.{content_adds, first_added, header_adds}
pub use Rattle.der_core_values.proofs.CoreOctets.Added.{none_added, refused_adds, value_then_added}
