pub mod Decodings
pub mod Scans
pub mod SeriesLaws
pub mod SeriesReading
pub mod WholeValues
pub mod Readings
pub mod OneChain
pub mod FaultStays
pub mod Inputs
pub mod RestLaws
pub mod LocationLaws
pub mod BundleSteps
pub use Rattle.x509_cert_certificates.proofs.Der
pub use Rattle.cert_desk_io.proofs as DeskIo
pub use Rattle.x509_cert_certificates.proofs.Oid
