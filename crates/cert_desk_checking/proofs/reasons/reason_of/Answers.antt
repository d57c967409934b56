-- Goals of `reasons::reason_of` that the checker doesn't prove by itself.
use Rattle.std.proofs.Common.{ℕ, List, not, ◌&&◌, ◌||◌, ap, sym, ◌∙◌}
use Rattle.std.specs.List.{list_any}
use Rattle.x509_cert_anchors.specs.Oid.Bound.{Bound}
use Rattle.x509_cert_anchors.specs.CertParts.Grammar.{PlainExtension}
use Rattle.x509_cert_anchors.specs.CertParts.Views.{extensions_plain}
use Rattle.x509_cert_anchors.specs.CertCertificates.Views.{certificate_plain}
use Rattle.cert_desk_rules.specs.declared.rule.Rule.{Rule}
use Rattle.cert_desk_rules.specs.declared.rule.Rule.TheVariants as rules
use Rattle.cert_desk_rules.specs.Judging.{keeps_at}
use Rattle.cert_desk_rules.specs.Reasons.{has_no_authority, is_against, is_explained}
use Rattle.cert_desk_rules.proofs.MemoryLaws.{wanted_at}
use Rattle.cert_desk_checking.proofs.ReasonLaws.{broken-authority, broken-extension, length-explained, told-where}
use Rattle.cert_desk_checking.proofs.reasons.reason_of.Goals as goal

pub returns-in-DuplicateExtension-clause-memory : goal.returns-in-DuplicateExtension-clause-memory
returns-in-DuplicateExtension-clause-memory c =
    wanted_at _ _ c.args.place _ _ c.in-Some.ensures.entry.certificate c.extensions_of-extensions.ensures c.twins_in.ensures.memory

pub returns-in-MalformedExtension-clause-told : goal.returns-in-MalformedExtension-clause-told
returns-in-MalformedExtension-clause-told c = told-where _ c.extension_against.result c.extension_against.ensures.told (λ o is t stream bound purpose.
    is
    ∙ ap (λ (p : List ℕ). list_any (is_against Bound p c.args.rule) (extensions_plain c.extensions_of-extensions.result.now)) (sym purpose)
    ∙ ap (λ (xs : List PlainExtension). list_any (is_against Bound t.purpose c.args.rule) xs) c.extensions_of-extensions.ensures
    ∙ broken-extension t c.args.bundle.now.certificates stream c.args.place (certificate_plain c.in-Some.entry.certificate.now) c.in-Some.ensures.entry.certificate bound
    c.args.rule c.in-MalformedExtension.is)

pub returns-in-MalformedExtension-clause-memory : goal.returns-in-MalformedExtension-clause-memory
returns-in-MalformedExtension-clause-memory c =
    wanted_at _ _ c.args.place _ _ c.in-Some.ensures.entry.certificate c.extensions_of-extensions.ensures c.extension_against.ensures.memory

pub returns-else-is_last-clause-told : goal.returns-else-is_last-clause-told
returns-else-is_last-clause-told c = told-where _ c.lack_of_authority.result c.lack_of_authority.ensures.told (λ o is t stream bound purpose.
    is
    ∙ ap (λ (xs : List PlainExtension). has_no_authority Bound xs || list_any (is_against Bound c.args.purpose.now rules.NotAuthority) xs) c.extensions_of-extensions.ensures
    ∙ broken-authority t c.args.bundle.now.certificates stream c.args.place (certificate_plain c.in-Some.entry.certificate.now) c.in-Some.ensures.entry.certificate bound
    c.args.purpose.now (sym c.if-is_last.ensures)
    ∙ ap (λ (r : Rule). is_explained r && not (keeps_at r t c.args.bundle.now.certificates stream c.args.place)) (sym c.in-NotAuthority.is))

pub returns-else-is_last-clause-memory : goal.returns-else-is_last-clause-memory
returns-else-is_last-clause-memory c =
    wanted_at _ _ c.args.place _ _ c.in-Some.ensures.entry.certificate c.extensions_of-extensions.ensures c.lack_of_authority.ensures.memory

pub returns-in-PathTooLong-clause-first : goal.returns-in-PathTooLong-clause-first
returns-in-PathTooLong-clause-first c =
    length-explained Bound c.args.purpose.now c.args.bundle.now.certificates c.args.place c.args.rule c.exceeded_length.result c.in-PathTooLong.is c.exceeded_length.ensures.first
