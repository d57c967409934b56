-- Goals of `naming::ca_certificate_naming` that the checker doesn't prove by itself.
use Rattle.std.proofs.Common.{◌≡◌, ℕ, List, false, None, sym, ap, ◌∙◌, not, find}
use Rattle.x509_cert_certificates.specs.CertNames.Views.{name_plain}
use Rattle.x509_cert_builders.specs.Naming.{foreign_type, has_required, is_among, name_types}
use Rattle.x509_cert_builders.proofs.Subjects.{lacking}
use Rattle.x509_cert_builders.proofs.naming.ca_certificate_naming.Goals as goal

pub returns : goal.returns
returns c =
    let n = name_plain c.args.subject.now in
    let found = c.as_slice.result.now in
    let types : name_types n ≡ found = sym (c.as_slice.ensures.value ∙ c.in_ok-found.ensures.types) in
    let none : foreign_type (name_types n) ≡ None =
    ap foreign_type types
    ∙ ap (λ (allowed : List (List ℕ)). find (λ t. not (is_among allowed t)) found) (sym c.authority_types.ensures)
    ∙ sym c.foreign_type.ensures
    ∙ c.in-None.is in
    let lacks : has_required (name_types n) ≡ false =
    ap has_required (sym (c.as_slice-2.ensures.value ∙ c.in_ok-found.ensures.types)) ∙ sym c.has_required.ensures ∙ c.if-has_required.false in
    lacking n c.in_ok-found.ensures.rules none lacks
