-- Lemmas of other crates that attributes of this crate cite.
pub use Rattle.der_core_octets.proofs.CoreHead.IntegerLaws.{listed}
pub use Rattle.der_core_octets.proofs.CoreHead.TextLaws.{utf8_reads}
