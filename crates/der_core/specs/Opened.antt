-- Definitions of other crates that attributes of this crate unfold.
unfoldable pub use Rattle.der_core_coding.specs.CoreHead.Grammar.{either_at}
unfoldable pub use Rattle.der_core_coding.specs.CoreHead.Shapes.{IsBody, IsContent, IsValid}
unfoldable pub use Rattle.der_core_coding.specs.CoreHead.Shapes.{body_octets, contents, octets_of}
unfoldable pub use Rattle.der_core_coding.specs.CoreHead.Writing.{both_len}
