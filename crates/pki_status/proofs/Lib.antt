pub mod FindSteps
pub mod FunctionSteps
pub mod IdentifiedLaws
