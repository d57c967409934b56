pub mod Lists
pub mod Printed
pub mod Rows
pub mod NameBounds
pub mod OneName
pub mod EncodedValues
mod TextBounds
mod PlainSpelled
pub mod SameOctets
mod ReadBack
mod Cited
