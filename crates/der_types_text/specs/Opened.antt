-- Definitions of other crates that attributes of this crate unfold.
unfoldable pub use Rattle.der_core.specs.BmpStrings.{bmp_read}
unfoldable pub use Rattle.der_core.specs.Texts.{text_read}
