-- Goals of `tbs_certificate::TbsCertificateInner::clone` that the checker doesn't prove by itself.
use Rattle.std.proofs.Common.{sym, ap, ◌∙◌, pos}
use Rattle.der_core.proofs.ValueEquality.{itself_absent}
use Rattle.x509_cert_parts.specs.Views.{time_value, version_number}
use Rattle.x509_cert_certificates.proofs.tbs_certificate.TbsCertificateInner.clone.Goals as goal

pub returns : goal.returns
returns g c =
    let before = ap time_value c.new.ensures.before in
    let after = ap time_value c.new.ensures.after in
    let issuer_id = sym (itself_absent c.in_ok-copy_of_option.field-0) ∙ c.in_ok-copy_of_option.ensures ∙ itself_absent c.args.self.now.issuer_unique_id in
    let subject_id = sym (itself_absent c.in_ok-copy_of_option-2.field-0) ∙ c.in_ok-copy_of_option-2.ensures ∙ itself_absent c.args.self.now.subject_unique_id in
    λ i. (
      pos (version_number c.args.self.now.version),
      (
        c.in_ok-clone.ensures i,
        (
          c.in_ok-clone-4.ensures i,
          (
            c.in_ok-clone-2.ensures i,
            (
              (before i, (after i, tt)),
              (c.in_ok-clone-3.ensures i, (c.in_ok-clone-5.ensures i, (issuer_id i, (subject_id i, (c.in_ok-copies_of_option.ensures i, tt))))),
            ),
          ),
        ),
      ),
    )
