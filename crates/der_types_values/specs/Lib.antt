pub mod OctetStrings
pub mod Sequences
pub mod Bits
pub mod BitStrings
pub mod Opened
