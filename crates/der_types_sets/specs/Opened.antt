-- Definitions of other crates that attributes of this crate unfold.
unfoldable pub use Rattle.der_core.specs.Shapes.{IsBody, IsContent, body_octets, contents}
