-- Definitions of other crates that attributes of this crate unfold.
unfoldable pub use Rattle.der_core_octets.specs.CoreHead.Grammar.{either_at, opt_at, tlv_at}
unfoldable pub use Rattle.der_core_octets.specs.CoreHead.Shapes.{contents, octets_of}
unfoldable pub use Rattle.der_core_octets.specs.CoreHead.Writing.{head_len, tlv_len, write_tlv}
