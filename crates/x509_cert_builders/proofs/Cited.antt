-- Lemmas of other crates that `using` attributes in this crate name.
pub use Rattle.x509_cert_certificates.proofs.Der.Results.{plain_permutation}
