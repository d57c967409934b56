-- Goals of `issuing::signed_part_at` that the checker doesn't prove by itself.
use Rattle.std.proofs.Common.{[], true, Some, inl, refl, ap, ◌∙◌, arith}
use Rattle.cert_desk_orders.specs.Oid.Bound.{Bound}
use Rattle.cert_desk_orders.specs.Der.Shapes.{octets_of}
use Rattle.x509_cert_builders.specs.States.{as_written}
use Rattle.x509_cert_builders.proofs.Encodable.{raw_octets}
use Rattle.x509_cert_builders.specs.CertCertificates.Certificates.{Tbs, tbs, tbs_by, tbs_certificate}
use Rattle.x509_cert_builders.specs.CertCertificates.Views.{certificate_plain}
use Rattle.cert_desk_issuing_c.proofs.GivenChains.{at_place, beyond}
use Rattle.cert_desk_issuing_c.proofs.issuing.signed_part_at.Goals as goal

pub returns-then-place-certificates-clause-refused : goal.returns-then-place-certificates-clause-refused
returns-then-place-certificates-clause-refused c =
    inl (refl, beyond (λ c. as_written (certificate_plain c)) c.certificates-certificates.result.now c.in_ok-issued.issued.certificates c.args.place c.certificates-certificates.ensures c.args.orders.now c.args.algorithm.now [] c.in_ok-issued.ensures.issued (omega arith))

pub returns-in-Ok-clause-made : goal.returns-in-Ok-clause-made
returns-in-Ok-clause-made c =
    let it = as_written (certificate_plain c.index-certificates-place.result) in (
      c.in_ok-issued.issued.certificates,
      it,
      c.in_ok-issued.ensures.issued,
      at_place (λ c. as_written (certificate_plain c)) c.certificates-certificates.result.now c.in_ok-issued.issued.certificates c.args.place c.certificates-certificates.ensures c.index-certificates-place.result (omega arith) c.index-certificates-place.is,
      c.in-Ok.ensures.octets.0 ∙ ap (λ (t : Tbs). octets_of (tbs_certificate Bound (Some 21)) (tbs_by true t)) c.tbs_certificate.ensures ∙ raw_octets (tbs it),
    )
