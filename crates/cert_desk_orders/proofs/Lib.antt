mod FaultyLines
mod LineLists
mod LineTexts
mod NamesOfLines
mod OrderLines
mod SoundOrders
pub use Rattle.x509_cert_parts.proofs as CertParts
pub use Rattle.x509_cert_parts.proofs.Types
