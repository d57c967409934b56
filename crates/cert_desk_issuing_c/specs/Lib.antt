pub mod Auditing
pub mod OneByOne
pub mod Reasons
pub mod Signing
