pub mod FaultNumbers
pub mod Values
pub mod Judged
pub mod Places
