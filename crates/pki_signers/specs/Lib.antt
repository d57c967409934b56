pub mod Followed
pub mod Fields
pub mod Signers
pub mod Paths
