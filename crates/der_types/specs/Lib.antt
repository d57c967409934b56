pub mod Levels
pub use Rattle.der_types_tagged.specs.Der.Integers
pub use Rattle.der_types_tagged.specs.Der.Shapes
pub use Rattle.der_types_tagged.specs.Fields as ClassFields
pub use Rattle.der_types_any.specs.TypesNumbers.Ints
pub use Rattle.der_types_any.specs.TypesNumbers.Numbers
pub use Rattle.der_types_any.specs.TypesNumbers.NumberOrders
pub use Rattle.der_types_any.specs.TypesNumbers.Kept
pub use Rattle.der_types_any.specs.TypesNumbers.Seconds
pub use Rattle.der_types_any.specs.TypesNumbers.DateTimes
pub use Rattle.der_types_any.specs.TypesNumbers.DateOrders
pub use Rattle.der_types_any.specs.TypesNumbers.Times
pub use Rattle.der_types_any.specs.TypesNumbers.DateTexts
pub use Rattle.der_types_any.specs.TypesValues.OctetStrings
pub use Rattle.der_types_any.specs.TypesValues.Sequences
pub use Rattle.der_types_any.specs.TypesValues.Bits
pub use Rattle.der_types_any.specs.TypesValues.BitStrings
pub use Rattle.der_types_any.specs.TypesText.Texts
pub use Rattle.der_types_any.specs.TypesText.BmpChars
pub use Rattle.der_types_any.specs.TypesText.BmpStrings
pub use Rattle.der_types_any.specs.TypesText.BmpOrders
pub use Rattle.der_types_sets.specs.Sets
pub use Rattle.der_types_sets.specs.Lends
pub use Rattle.der_types_sets.specs.Ascending
pub use Rattle.der_types_sets.specs.Lent
pub use Rattle.der_types_sets.specs.Rearranged
pub use Rattle.der_types_any.specs.Anys
pub use Rattle.der_types_any.specs.Contents
pub use Rattle.der_types_any.specs.AnyOrders
pub use Rattle.der_types_any.specs.TypesNumbers.contracts.uint as UintContracts
pub use Rattle.der_types_any.specs.TypesValues.contracts.flag_set as FlagSetContracts
pub use Rattle.der_types_any.specs.TypesValues.contracts.octet_string as OctetStringContracts
