-- Lemmas about digits for definitions of other crates.
pub use Rattle.const_oid.proofs.DigitLaws.{below-push, halved, quotient_pos, Digits}
pub use Rattle.const_oid.proofs.DigitLaws.{digits-one, digits-more, by_digits}
pub use Rattle.const_oid.proofs.DigitLaws.{digits-Digits, number_from_digits-digits}
pub use Rattle.const_oid.proofs.DigitLaws.{same_from_digits, few_digits, below_power}
pub use Rattle.const_oid.proofs.DigitLaws.{fewer_digits, digits-push, first_of_digits-pos}
pub use Rattle.const_oid.proofs.DigitLaws.{digits-number_from_digits, split-same_length}
pub use Rattle.const_oid.proofs.DigitLaws.{split-marked, marked-push, length-marked}
pub use Rattle.const_oid.proofs.DigitLaws.{marked_below}
