-- Goals of `signers::has_subject`: a valid certificate has a valid subject.
use Rattle.std.proofs.Common.{◌≡◌, sym, ap, ◌∙◌, subst}
use Rattle.cert_desk_checking.specs.Oid.Bound.{Bound}
use Rattle.cert_desk_checking.specs.Der.Shapes.{IsValid}
use Rattle.cert_desk_checking.specs.CertCertificates.Certificates.{subject, tbs_subject}
use Rattle.cert_desk_checking.specs.CertCertificates.Views.{certificate_plain}
use Rattle.cert_desk_checking.specs.CertCertificates.CertNames.Views.{name_plain}
use Rattle.cert_desk_checking.specs.CertCertificates.CertNames.Names.{PlainName, name, name_octets}
use Rattle.cert_desk_checking.proofs.AnchorSteps.{same_name_by}
use Rattle.pki_signers.proofs.Subjects.{valid_subject}
use Rattle.pki_signers.proofs.signers.has_subject.Goals as goal

pub returns : goal.returns
returns c =
    let this = certificate_plain c.args.certificate.now in
    let named : name_plain c.subject.result.now ≡ subject this = c.subject.ensures ∙ ap tbs_subject c.tbs_certificate.ensures in
    same_name_by Bound _ (subject this) (name_plain c.args.subject.now) (
      λ t. ap (λ (n : PlainName). name_octets Bound n) (sym named) ∙ c.has_octets_of.ensures.same t,
      λ e. c.has_octets_of.ensures.differ (subst (λ (n : PlainName). IsValid (name Bound) n) (sym named) (valid_subject Bound this c.requires)) (ap (λ (n : PlainName). name_octets Bound n) named ∙ e),
    )
