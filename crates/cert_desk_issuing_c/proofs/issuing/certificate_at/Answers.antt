-- Goals of `issuing::certificate_at` that the checker doesn't prove by itself.
use Rattle.std.proofs.Common.{inl, refl, ◌∙◌, arith}
use Rattle.x509_cert_builders.specs.States.{as_written}
use Rattle.x509_cert_builders.specs.CertCertificates.Views.{certificate_plain}
use Rattle.cert_desk_issuing_c.proofs.GivenChains.{at_place, beyond, whole_octets}
use Rattle.cert_desk_issuing_c.proofs.issuing.certificate_at.Goals as goal

pub returns-then-place-certificates-clause-refused : goal.returns-then-place-certificates-clause-refused
returns-then-place-certificates-clause-refused c =
    inl (refl, beyond (λ c. as_written (certificate_plain c)) c.certificates-certificates.result.now c.in_ok-issued.issued.certificates c.args.place c.certificates-certificates.ensures c.args.orders.now c.args.algorithm.now c.args.signature.now c.in_ok-issued.ensures.issued (omega arith))

pub returns-in-Ok-clause-made : goal.returns-in-Ok-clause-made
returns-in-Ok-clause-made c =
    let it = as_written (certificate_plain c.index-certificates-place.result) in (
      c.in_ok-issued.issued.certificates,
      it,
      c.in_ok-issued.ensures.issued,
      at_place (λ c. as_written (certificate_plain c)) c.certificates-certificates.result.now c.in_ok-issued.issued.certificates c.args.place c.certificates-certificates.ensures c.index-certificates-place.result (omega arith) c.index-certificates-place.is,
      c.in-Ok.ensures.octets.0 ∙ whole_octets it,
    )
