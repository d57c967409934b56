pub mod NamedSteps
mod Cited
