pub mod FirstFields
pub mod ChainSteps
pub mod PathSteps
pub mod PathLaws
pub mod Subjects
pub mod KeyIdentifiers
