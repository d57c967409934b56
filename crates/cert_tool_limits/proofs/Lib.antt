pub mod IdentifierLaws
pub mod ListLaws
pub mod EntryLaws
pub mod AnchorLaws
pub mod DemandLaws
pub mod UnjudgedLaws
