-- Goals of `certificate_builder::CertificateBuilderBuilder::finalize` that the checker doesn't
-- prove by itself.
use Rattle.std.proofs.Common.{◌++◌, List, ap, ◌∙◌}
use Rattle.x509_cert_certificates.specs.Views.{tbs_plain}
use Rattle.x509_cert_certificates.specs.CertParts.Grammar.{PlainExtension}
use Rattle.x509_cert_certificates.specs.CertParts.Views.{extensions_plain}
use Rattle.x509_cert_certificates.specs.Assembling.{bare_part, fields_of, signed_part}
use Rattle.x509_cert_builders.proofs.Encodable.{made_valid}
use Rattle.x509_cert_builders.proofs.certificate_builder.CertificateBuilderBuilder.finalize.Goals as goal

pub returns-clause-valid : goal.returns-clause-valid
returns-clause-valid g c =
    let f = fields_of (tbs_plain c.self.inside.part) in
    let a = g.S.Signer.signs_by c.args.signer.now in
    let more = g.P.BuilderProfile.extensions c.self.inside.profile f.key (g.S.Signer.public_key c.args.signer.now) (bare_part f a) in
    let whole = c.in_ok-make_whole.ensures.whole ∙ ap (λ (es : List PlainExtension). signed_part f a (es ++ more)) (ap extensions_plain c.as_slice-added.ensures.value) in
    rw (← c.self.view_is)
    (made_valid f a (extensions_plain c.self.inside.extensions.items ++ more) (tbs_plain c.make_whole.new.part) whole c.part_in_range.ensures c.in_ok-octets.ensures.valid)
