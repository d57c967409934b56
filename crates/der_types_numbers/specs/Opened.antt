-- Definitions of other crates that attributes of this crate unfold.
unfoldable pub use Rattle.der_core.specs.Dates.{civil_at, generalized_octets, generalized_read}
unfoldable pub use Rattle.der_core.specs.Dates.{utc_octets, utc_read}
unfoldable pub use Rattle.der_core.specs.Integers.{shortest_integer}
unfoldable pub use Rattle.der_core.specs.Shapes.{contents}
