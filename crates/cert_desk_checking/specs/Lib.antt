pub mod Files
pub mod Issuers
pub mod ChainParts
pub mod Bounded
pub mod WiderBounds
pub mod Laws
pub mod Anchors
pub mod AnchorFiles
pub mod AnchorReading
pub mod Places
pub mod Lines
pub mod Arguments
pub mod Reading
pub mod Runs
pub mod QuestionLines
pub mod Questioning
pub use Rattle.x509_cert_anchors.specs as CertAnchors
pub use Rattle.x509_cert_anchors.specs.CertCertificates
pub use Rattle.x509_cert_anchors.specs.CertGeneralNames
pub use Rattle.x509_cert_anchors.specs.CertParts
pub use Rattle.x509_cert_anchors.specs.Der
pub use Rattle.cert_desk_rules.specs.DeskBundle
pub use Rattle.cert_desk_rules.specs.DeskIo
pub use Rattle.cert_desk_rules.specs as DeskRules
pub use Rattle.x509_cert_anchors.specs.Oid
