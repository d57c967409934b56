-- Goals of `request_builder::RequestBuilder::part_for` that the checker doesn't prove by itself.
use Rattle.std.proofs.Common.{refl, sym, ap, ◌∙◌}
use Rattle.std.proofs.lemmas.Result.{err_from_is_err_and}
use Rattle.x509_cert_anchors.specs.Oid.Bound.{Bound}
use Rattle.x509_cert_anchors.specs.Der.Grammar.{plain_list}
use Rattle.x509_cert_lists.specs.ListGrammar.{extension_req_attribute}
use Rattle.x509_cert_lists.specs.CertNames.Views.{attribute_plain, name_plain}
use Rattle.x509_cert_lists.specs.CertParts.Views.{extensions_plain, key_plain}
use Rattle.x509_cert.proofs.RequestParts.{answered_same, one_part, placed_same, same_reason, same_valid}
use Rattle.x509_cert.proofs.request_builder.RequestBuilder.part_for.Goals as goal

pub returns-in_err-request-clause-refused : goal.returns-in_err-request-clause-refused
returns-in_err-request-clause-refused c =
    let p = err_from_is_err_and c.from_residual-in_err-request.result c.from_residual-in_err-request.ensures.1 in
    rw (p.1, p.2, ← c.self.view_is)
    (same_reason _ _ c.in_err-request.field-0.0 (ap (extension_req_attribute Bound) (c.in_ok-extensions.ensures ∙ ap extensions_plain c.as_slice.ensures.value)) c.in_err-request.ensures.refused)

pub returns-in_err-place-clause-refused : goal.returns-in_err-place-clause-refused
returns-in_err-place-clause-refused c =
    let same = c.in_ok-values.ensures ∙ ap (plain_list attribute_plain) c.as_slice-2.ensures in
    absurd (answered_same attribute_plain _ _ c.in_ok-request.request c.as_slice-3.ensures.value c.in_err-place.ensures.answered
    (same_valid attribute_plain c.in_ok-values.values.items c.self.inside.attributes.values.items same c.self.invariant) c.in_ok-request.ensures.valid)

pub returns-clause-asked : goal.returns-clause-asked
returns-clause-asked c =
    rw (← c.self.view_is, ← c.as_slice.ensures.value, ← c.in_ok-extensions.ensures, c.in_ok-request.ensures.made) refl

pub returns-clause-made : goal.returns-clause-made
returns-clause-made c =
    let inside = c.self.inside in
    let request = c.in_ok-request.request in
    let same = c.in_ok-values.ensures ∙ ap (plain_list attribute_plain) c.as_slice-2.ensures in
    rw (← c.self.view_is)
    (one_part attribute_plain (name_plain c.in_ok-subject.subject) (name_plain inside.subject) (extensions_plain inside.extensions.0.items) (key_plain c.in_ok-public_key.public_key) (key_plain c.args.key.now)
    c.in_ok-values.values.items c.insert.new.self.items (plain_list attribute_plain inside.attributes.values.items) c.in_ok-place.place request
    c.in_ok-subject.ensures c.in_ok-public_key.ensures same c.in_ok-insert.ensures.items
    (ap (extension_req_attribute Bound) (sym (c.in_ok-extensions.ensures ∙ ap extensions_plain c.as_slice.ensures.value)) ∙ c.in_ok-request.ensures.made)
    (placed_same attribute_plain _ _ c.in_ok-place.place request c.as_slice-3.ensures.value c.in_ok-place.ensures.place
    (same_valid attribute_plain c.in_ok-values.values.items inside.attributes.values.items same c.self.invariant) c.in_ok-request.ensures.valid))
