-- Definitions of other crates that attributes of this crate unfold.
unfoldable pub use Rattle.der_core.specs.Shapes.{IsBody, IsContent, body_octets, contents}
unfoldable pub use Rattle.der_core.specs.Writing.{head_len, tlv_len}
