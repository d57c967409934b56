-- Goals of `checking::is_issued_by` that the checker doesn't prove by itself.
use Rattle.std.proofs.Common.{◌≡◌, sym, ap, ◌∙◌, subst}
use Rattle.x509_cert_anchors.specs.Oid.Bound.{Bound}
use Rattle.x509_cert_anchors.specs.Der.Shapes.{IsValid}
use Rattle.x509_cert_anchors.specs.CertCertificates.Views.{certificate_plain}
use Rattle.x509_cert_anchors.specs.CertNames.Views.{name_plain}
use Rattle.x509_cert_anchors.specs.CertNames.Names.{PlainName, name, name_octets}
use Rattle.x509_cert_anchors.specs.CertCertificates.Certificates.{issuer, tbs_issuer}
use Rattle.cert_desk_checking.proofs.AnchorSteps.{same_name_by}
use Rattle.cert_desk_checking.proofs.Encodings.{valid_issuer}
use Rattle.cert_desk_checking.proofs.checking.is_issued_by.Goals as goal

pub returns : goal.returns
returns c =
    let this = certificate_plain c.args.certificate.now in
    let named : name_plain c.issuer.result.now ≡ issuer this = c.issuer.ensures ∙ ap tbs_issuer c.tbs_certificate.ensures in
    same_name_by Bound _ (issuer this) (name_plain c.args.name.now) (
      λ t. ap (λ (n : PlainName). name_octets Bound n) (sym named) ∙ c.has_octets_of.ensures.same t,
      λ e. c.has_octets_of.ensures.differ (subst (λ (n : PlainName). IsValid (name Bound) n) (sym named) (valid_issuer Bound this c.requires)) (ap (λ (n : PlainName). name_octets Bound n) named ∙ e),
    )
