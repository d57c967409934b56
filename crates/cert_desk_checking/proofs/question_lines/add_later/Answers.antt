-- Goals of `question_lines::add_later` that the checker doesn't prove by itself.
use Rattle.std.proofs.Common.{◌≡◌, ◌++◌, string_bytes, subst, ap, ◌∙◌}
use Rattle.std.specs.Prelude.{OnOk}
use Rattle.x509_cert_anchors.specs.CertCertificates.Certificates.{tbs_public_key}
use Rattle.cert_desk_checking.proofs.PlaceLaws.{entry_at}
use Rattle.cert_desk_checking.proofs.QuestionLaws.{lines_at-later}
use Rattle.cert_desk_checking.proofs.question_lines.add_later.Goals as goal

pub returns : goal.returns
returns c = λ anchors.
    let before = entry_at _ _ _ _ _ c.get.ensures.entry c.unwrap-before.ensures in
    let entry = entry_at _ _ _ _ _ c.get-2.ensures.entry c.unwrap.ensures in
    subst (λ w. OnOk c.add_line.result (string_bytes c.add_line.new.text ≡ string_bytes c.args.text.now ++ w))
    (lines_at-later c.args.bundle.now.certificates c.args.place c.unwrap.result c.unwrap-before.result _ anchors c.requires.later entry before
    (c.subject_public_key_info-key.ensures ∙ ap tbs_public_key c.tbs_certificate.ensures))
    c.add_line.ensures
