pub mod Equality
pub mod Levels
pub mod Parts
pub use Rattle.x509_cert_anchors.specs.Der.Octets
pub use Rattle.x509_cert_builders.specs.CertCertificates.Certificates
pub use Rattle.x509_cert_builders.specs.CertCertificates.Views as CertificateViews
pub use Rattle.x509_cert_lists.specs.CertParts.Texts
pub use Rattle.x509_cert_anchors.specs.CertGeneralNames.GeneralNames
pub use Rattle.x509_cert_anchors.specs.CertGeneralNames.GeneralNameViews
pub use Rattle.x509_cert_builders.specs.CertExtensions.Making
pub use Rattle.x509_cert_anchors.specs.PolicyTypes.Policies
pub use Rattle.x509_cert_anchors.specs.PolicyTypes.PolicyViews
pub use Rattle.x509_cert_builders.specs.Naming
pub use Rattle.x509_cert_builders.specs.Profiles
pub use Rattle.x509_cert_builders.specs.Refusals
pub use Rattle.x509_cert_builders.specs.Subscribers
pub use Rattle.x509_cert_lists.specs.ListGrammar
pub use Rattle.x509_cert_anchors.specs.Anchors
pub use Rattle.x509_cert_anchors.specs.AnchorViews
pub use Rattle.x509_cert_lists.specs.CertNames as Names
pub mod Lists
pub mod Requests
pub mod Signed
pub mod States
