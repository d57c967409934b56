pub mod Opened
pub mod OptionalSets
pub mod FirstMembers
