pub mod Audits
pub mod GivenChains
pub mod OneAsked
pub mod OneByOne
