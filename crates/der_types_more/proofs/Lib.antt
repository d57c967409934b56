mod Cited
pub mod OptionalSets
pub mod FirstMembers
