-- Lemmas about integers for other crates.
pub use Rattle.der_core_head.proofs.IntegerLaws.{IsPositive, integer_of-octets}
pub use Rattle.der_core_head.proofs.IntegerLaws.{integer_octets-of}
pub use Rattle.der_core_head.proofs.IntegerLaws.{integer_octets-not_redundant}
pub use Rattle.der_core_head.proofs.IntegerLaws.{integer_octets-some}
pub use Rattle.der_core_head.proofs.IntegerLaws.{integer_octets-below, listed}
pub use Rattle.der_core_head.proofs.IntegerLaws.{checked-sound, checked-again}
pub use Rattle.der_core_head.proofs.IntegerLaws.{integer_sound, integer_again}
pub use Rattle.der_core_head.proofs.IntegerLaws.{set_octets-zero, spelled_set-octets}
pub use Rattle.der_core_head.proofs.IntegerLaws.{set_octets-step, set_octets-below}
pub use Rattle.der_core_head.proofs.IntegerLaws.{named_sound, named_again, named_below}
