-- Definitions of other crates that `unfolding` attributes in this crate name.
unfoldable pub use Rattle.der_core.specs.Grammar.{tlv_at, value_at}
unfoldable pub use Rattle.der_core.specs.Heads.{head_at, length_at}
unfoldable pub use Rattle.der_core.specs.Integers.{integer_of, shortest_integer}
unfoldable pub use Rattle.der_core.specs.Tags.{tag_at, universal_tag}
