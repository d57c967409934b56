-- Lemmas of other crates that attributes of this crate cite.
pub use Rattle.der_core.proofs.TextLaws.{utf8_reads}
