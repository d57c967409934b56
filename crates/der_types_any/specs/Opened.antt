-- Definitions of other crates that attributes of this crate unfold.
unfoldable pub use Rattle.der_types_text.specs.Der.Grammar.{any_at}
unfoldable pub use Rattle.der_types_text.specs.Der.Writing.{head_len, tlv_len, write_tlv}
