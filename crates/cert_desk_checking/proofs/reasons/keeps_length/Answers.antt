-- Goals of `reasons::keeps_length` that the checker doesn't prove by itself.
use Rattle.std.proofs.Common.{ap, sym, ◌∙◌}
use Rattle.x509_cert_anchors.specs.Oid.Bound.{Bound}
use Rattle.x509_cert_anchors.specs.CertCertificates.Views.{certificate_plain}
use Rattle.x509_cert_anchors.specs.CertParts.Views.{extensions_plain}
use Rattle.cert_desk_rules.specs.Paths.{is_within}
use Rattle.cert_desk_rules.proofs.MemoryLaws.{takes_at}
use Rattle.cert_desk_rules.proofs.DeskIo.Given.{OnErr-by}
use Rattle.cert_desk_checking.proofs.PlaceLaws.{entry_at}
use Rattle.cert_desk_checking.proofs.ReasonLaws.{length-found}
use Rattle.cert_desk_checking.proofs.reasons.keeps_length.Goals as goal

pub returns-in_default-clause-kept : goal.returns-in_default-clause-kept
returns-in_default-clause-kept c = λ place counted.
    let cs = c.args.bundle.now.certificates in
    let entry = entry_at _ _ _ _ _ c.get.ensures.entry c.unwrap.ensures in
    let kept = length-found Bound c.args.purpose.now cs c.args.before place c.args.count (certificate_plain c.unwrap.result.certificate.now)
    (extensions_plain c.extensions_of.result.now) c.in_ok-findings.findings entry.certificate c.extensions_of.ensures c.in_ok-findings.ensures.found counted in
    ap (λ p. is_within c.args.count p) (sym c.in_default.is) ∙ kept

pub returns-clause-kept : goal.returns-clause-kept
returns-clause-kept c = λ place counted.
    let cs = c.args.bundle.now.certificates in
    let entry = entry_at _ _ _ _ _ c.get.ensures.entry c.unwrap.ensures in
    let kept = length-found Bound c.args.purpose.now cs c.args.before place c.args.count (certificate_plain c.unwrap.result.certificate.now)
    (extensions_plain c.extensions_of.result.now) c.in_ok-findings.findings entry.certificate c.extensions_of.ensures c.in_ok-findings.ensures.found counted in
    ap (λ p. is_within c.args.count p) (sym c.in-Some.is) ∙ kept

pub returns-in_err-findings-clause-memory : goal.returns-in_err-findings-clause-memory
returns-in_err-findings-clause-memory c =
    let entry = entry_at _ _ _ _ _ c.get.ensures.entry c.unwrap.ensures in
    OnErr-by _ _ (takes_at c.args.bundle.now.certificates c.args.before (certificate_plain c.unwrap.result.certificate.now) (extensions_plain c.extensions_of.result.now) entry.certificate c.extensions_of.ensures c.in_err-findings.ensures.memory)
