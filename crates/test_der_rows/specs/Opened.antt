-- Definitions of other crates that the attributes of this crate unfold.
unfoldable pub use Rattle.der_core.specs.Shapes.{IsContent, contents, octets_of}
