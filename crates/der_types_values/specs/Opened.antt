-- Definitions of other crates that attributes of this crate unfold.
unfoldable pub use Rattle.der_core.specs.BitStrings.{bits_read}
unfoldable pub use Rattle.der_core.specs.NamedBits.{named_read}
unfoldable pub use Rattle.der_core.specs.Shapes.{contents}
