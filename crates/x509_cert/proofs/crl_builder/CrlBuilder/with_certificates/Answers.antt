-- Goals of `crl_builder::CrlBuilder::with_certificates` that the checker doesn't prove by itself.
use Rattle.x509_cert_lists.specs.ListViews.{revoked_cert_plain}
use Rattle.x509_cert.proofs.RequestParts.{added_same}
use Rattle.x509_cert.proofs.crl_builder.CrlBuilder.with_certificates.Goals as goal

pub returns-clause-added : goal.returns-clause-added
returns-clause-added g c =
    let run = c.in_ok-more.ensures.runs tt in
    (run.0, run.1, run.2, added_same revoked_cert_plain c.args.self.now _ _ _ c.in_ok-append.ensures.added run.3.0)
