-- Goals of `checking::has_one_algorithm` that the checker doesn't prove by itself.
use Rattle.std.proofs.Common.{◌≡◌, sym, ap, ◌∙◌}
use Rattle.x509_cert_anchors.specs.Oid.Bound.{Bound}
use Rattle.x509_cert_anchors.specs.Der.Shapes.{octets_of}
use Rattle.x509_cert_anchors.specs.CertParts.Views.{algorithm_plain}
use Rattle.x509_cert_anchors.specs.CertParts.Grammar.{Algorithm, algorithm_identifier}
use Rattle.x509_cert_anchors.specs.CertCertificates.Views.{certificate_plain}
use Rattle.x509_cert_anchors.specs.CertCertificates.Certificates.{inner_algorithm, outer_algorithm}
use Rattle.x509_cert_anchors.specs.CertCertificates.Certificates.{tbs_inner_algorithm}
use Rattle.cert_desk_checking.proofs.PlaceLaws.{one_algorithm_by}
use Rattle.cert_desk_checking.proofs.checking.has_one_algorithm.Goals as goal

pub returns : goal.returns
returns c =
    let this = certificate_plain c.args.certificate.now in
    let inner : algorithm_plain c.signature-signed.result.now ≡ inner_algorithm this = c.signature-signed.ensures ∙ ap tbs_inner_algorithm c.tbs_certificate.ensures in
    let outer : algorithm_plain c.signature_algorithm.result.now ≡ outer_algorithm this = c.signature_algorithm.ensures in
    one_algorithm_by Bound _ this c.requires
    (λ t. ap (λ (a : Algorithm). octets_of (algorithm_identifier Bound) a) (sym inner) ∙ c.has_octets_of.ensures.same t
    ∙ ap (λ (a : Algorithm). octets_of (algorithm_identifier Bound) a) outer)
    (λ e. c.has_octets_of.ensures.differ (inner ∙ e ∙ sym outer))
