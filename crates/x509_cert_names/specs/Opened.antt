-- Definitions of other crates that `unfolding` attributes in this crate name.
unfoldable pub use Rattle.der_core.specs.Shapes.{IsBody, IsContent, body_octets, contents}
