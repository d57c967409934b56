pub mod Hashes
pub mod CertIds
