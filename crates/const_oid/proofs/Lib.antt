pub mod DigitLaws
pub mod IdentifierLaws
pub mod ArcsLaws
pub mod BoundLaws
pub mod BufferLaws
pub mod LongArcLaws
pub mod EncodingLaws
pub mod TextLaws
pub mod DottedLaws
pub mod PrefixLaws
pub mod ParentLaws
pub mod OctetFaultLaws
pub mod TextRoundLaws
pub mod FamilyLaws
pub mod ArcFaultLaws
pub mod TextFaultLaws
pub mod OverflowLaws
pub mod PackedLaws
pub mod LastArcLaws
mod NamesLaws
mod PrintLengthLaws
pub mod OrderLaws
pub mod BoundedLaws
