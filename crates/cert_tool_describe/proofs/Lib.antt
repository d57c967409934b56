pub use Rattle.x509_cert_lists.proofs.CertNames
pub use Rattle.x509_cert_lists.proofs.Der
pub use Rattle.x509_cert_lists.proofs.Oid
