-- Lemmas about texts for other crates.
pub use Rattle.der_core_head.proofs.TextLaws.{text_sound, text_again, utf8_sound}
pub use Rattle.der_core_head.proofs.TextLaws.{utf8_again, printable_below, all_ascii}
pub use Rattle.der_core_head.proofs.TextLaws.{numeric_below, visible_below}
pub use Rattle.der_core_head.proofs.TextLaws.{bmp_octets-units, are_pairs-octets}
pub use Rattle.der_core_head.proofs.TextLaws.{units-octets, bmp_below, bmp_sound}
pub use Rattle.der_core_head.proofs.TextLaws.{bmp_again, is_text, utf8_read-ok}
pub use Rattle.der_core_head.proofs.TextLaws.{utf8_read-err, utf8_reads, two_at-again}
pub use Rattle.der_core_head.proofs.TextLaws.{two_at-sound, Ranges, civil_ranges}
pub use Rattle.der_core_head.proofs.TextLaws.{zulu-sound, zulu-again, utc_sound}
pub use Rattle.der_core_head.proofs.TextLaws.{utc_again, utc_octets-below}
pub use Rattle.der_core_head.proofs.TextLaws.{generalized_sound, generalized_again}
pub use Rattle.der_core_head.proofs.TextLaws.{generalized_octets-below}
