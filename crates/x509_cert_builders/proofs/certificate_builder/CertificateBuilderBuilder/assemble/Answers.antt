-- Goals of `certificate_builder::CertificateBuilderBuilder::assemble` that the checker doesn't
-- prove by itself.
use Rattle.std.proofs.Common.{◌∙◌, Some, sym, ap}
use Rattle.x509_cert_certificates.specs.Oid.Bound.{Bound}
use Rattle.x509_cert_certificates.specs.Views.{certificate_plain, tbs_plain}
use Rattle.x509_cert_certificates.specs.Assembling.{fields_of}
use Rattle.x509_cert_builders.specs.SignedParts.{written_part}
use Rattle.x509_cert_builders.specs.States.{as_written}
use Rattle.x509_cert_builders.proofs.Encodable.{put_back}
use Rattle.x509_cert_builders.proofs.certificate_builder.CertificateBuilderBuilder.assemble.Goals as goal

pub returns-clause-part : goal.returns-clause-part
returns-clause-part g c =
    rw (← c.self.view_is)
    (put_back c.self.inside.finalized (fields_of (tbs_plain c.self.inside.part)) (tbs_plain c.put_back.new.part) c.in_ok-signature_algorithm.ensures.whole
    ∙ ap (λ t. Some (written_part t)) (sym (ap (λ certificate. certificate.0) c.certificate_of.ensures)))

pub returns-clause-octets : goal.returns-clause-octets
returns-clause-octets g c = c.signed_part_stands_in_place.ensures Bound (as_written (certificate_plain c.certificate_of.result))
