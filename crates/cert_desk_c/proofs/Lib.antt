pub mod PartPlaces
pub mod ExtensionPlaces
pub mod Told
pub mod Verdicts
pub mod AskedQuestions
pub mod Extended
pub mod Described
pub mod Named
