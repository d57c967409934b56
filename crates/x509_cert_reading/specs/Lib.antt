pub use Rattle.x509_cert_certificates.specs.Certificates
pub use Rattle.x509_cert_certificates.specs.Views as CertificateViews
pub use Rattle.x509_cert_extensions.specs.CertGeneralNames.GeneralNames
pub use Rattle.x509_cert_extensions.specs.CertGeneralNames.GeneralNameViews
pub use Rattle.x509_cert_extensions.specs.PolicyTypes.Policies
pub use Rattle.x509_cert_extensions.specs.PolicyTypes.PolicyViews
pub use Rattle.x509_cert_lists.specs.ListGrammar
pub use Rattle.x509_cert_lists.specs.CertNames as Names
pub use Rattle.x509_cert_lists.specs.CertParts as Parts
