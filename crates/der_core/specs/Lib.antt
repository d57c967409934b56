pub mod Copies
pub mod Equality
pub mod Orders
pub mod OrdLaws
pub mod Placed
pub mod Rows
pub mod Opened
pub use Rattle.der_core_coding.specs.CoreHead.Limits
pub use Rattle.der_core_coding.specs.CoreHead.Octets
pub use Rattle.der_core_coding.specs.CoreHead.Tags
pub use Rattle.der_core_coding.specs.CoreHead.Classes
pub use Rattle.der_core_coding.specs.CoreHead.TagNames
pub use Rattle.der_core_coding.specs.CoreHead.ModeNames
pub use Rattle.der_core_coding.specs.CoreHead.Heads
pub use Rattle.der_core_coding.specs.CoreHead.Integers
pub use Rattle.der_core_coding.specs.CoreHead.BitStrings
pub use Rattle.der_core_coding.specs.CoreHead.NamedBits
pub use Rattle.der_core_coding.specs.CoreHead.Dates
pub use Rattle.der_core_coding.specs.CoreHead.Texts
pub use Rattle.der_core_coding.specs.CoreHead.Lengths
pub use Rattle.der_core_coding.specs.CoreHead.BmpStrings
pub use Rattle.der_core_coding.specs.CoreHead.Leaves
pub use Rattle.der_core_coding.specs.CoreHead.Shapes
pub use Rattle.der_core_coding.specs.CoreHead.Bounds
pub use Rattle.der_core_coding.specs.CoreHead.Spelling
pub use Rattle.der_core_coding.specs.CoreHead.Ranges
pub use Rattle.der_core_coding.specs.CoreHead.Grammar
pub use Rattle.der_core_coding.specs.CoreHead.Writing
pub use Rattle.der_core_coding.specs.CoreHead.Reading
pub use Rattle.der_core_coding.specs.CoreHead.Bodies
pub use Rattle.der_core_coding.specs.CoreHead.Fronts
pub use Rattle.der_core_coding.specs.CoreOctets.Held
pub use Rattle.der_core_coding.specs.CoreOctets.Fronts as OctetsFronts
pub use Rattle.der_core_coding.specs.CoreOctets.Numbers
pub use Rattle.der_core_coding.specs.CoreOctets.Places
pub use Rattle.der_core_coding.specs.CoreOctets.Nesting
pub use Rattle.der_core_coding.specs.CoreOctets.Outputs
pub use Rattle.der_core_coding.specs.CoreOctets.Parts
pub use Rattle.der_core_coding.specs.CoreOctets.Pieces
pub use Rattle.der_core_coding.specs.CoreOctets.Headers
pub use Rattle.der_core_coding.specs.CoreOctets.LoneLengths
pub use Rattle.der_core_coding.specs.CoreValues.Both
pub use Rattle.der_core_coding.specs.CoreValues.Same
pub use Rattle.der_core_coding.specs.CoreValues.Choices
pub use Rattle.der_core_coding.specs.CoreValues.Memory
pub use Rattle.der_core_coding.specs.CoreValues.Numbered
pub use Rattle.der_core_coding.specs.Slices
pub use Rattle.der_core_coding.specs.Sequences
pub use Rattle.der_core_coding.specs.Steps
pub use Rattle.der_core_coding.specs.Wholes
pub use Rattle.der_core_coding.specs.Defaults
pub use Rattle.der_core_coding.specs.CoreHead.declared.encoding_rules as EncodingRulesTypes
pub use Rattle.der_core_coding.specs.CoreHead.declared.error as ErrorTypes
pub use Rattle.der_core_coding.specs.CoreHead.declared.length as LengthTypes
pub use Rattle.der_core_coding.specs.CoreHead.declared.tag as TagTypes
pub use Rattle.der_core_coding.specs.CoreHead.declared.tag_mode as TagModeTypes
pub use Rattle.der_core_coding.specs.CoreOctets.declared.header as HeaderTypes
pub use Rattle.der_core_coding.specs.CoreValues.declared.decode as DecodeTypes
pub use Rattle.der_core_coding.specs.Oid
