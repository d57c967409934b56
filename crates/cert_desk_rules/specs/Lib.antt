pub mod CertificateFields
pub mod Weighing
pub mod Paths
pub mod Findings
pub mod Judging
pub mod Verdicts
pub mod KeptRules
pub mod Reasons
pub mod Digests
pub mod Questions
pub mod Answers
pub mod Judges
pub mod Identifiers
pub mod Rooms
pub mod Returned
pub use Rattle.cert_desk_bundle.specs as DeskBundle
pub use Rattle.cert_desk_bundle.specs.DeskIo
