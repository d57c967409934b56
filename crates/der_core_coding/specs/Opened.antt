-- Definitions of other crates that attributes of this crate unfold.
unfoldable pub use Rattle.der_core_values.specs.CoreHead.Grammar.{default_at, opt_at, read_whole}
unfoldable pub use Rattle.der_core_values.specs.CoreHead.Grammar.{tlv_at}
unfoldable pub use Rattle.der_core_values.specs.CoreHead.Shapes.{IsContent, body_octets, contents}
unfoldable pub use Rattle.der_core_values.specs.CoreHead.Shapes.{octets_of, unless}
unfoldable pub use Rattle.der_core_values.specs.CoreHead.Writing.{both_len, default_len}
unfoldable pub use Rattle.der_core_values.specs.CoreHead.Writing.{default_write, put, write_tlv}
