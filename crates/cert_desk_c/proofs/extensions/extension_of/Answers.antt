-- Goals of `extensions::extension_of` that the checker doesn't prove by itself.
use Rattle.std.proofs.Common.{Some, is_some, sym, ap, ◌∙◌, List}
use Rattle.cert_tool_describe.specs.CertCertificates.Certificates.{Tbs, tbs_extensions, tbs_issuer_unique_id, tbs_subject_unique_id}
use Rattle.cert_tool_describe.specs.CertCertificates.Views.{certificate_plain}
use Rattle.cert_tool_describe.specs.CertParts.declared.extension.Extension.{Extension}
use Rattle.cert_tool_describe.specs.CertParts.Views.{extensions_plain}
use Rattle.cert_desk_c.proofs.ExtensionPlaces.{Behind, none_found, some_found, list_is, list_valid, before_list}
use Rattle.cert_desk_c.proofs.extensions.extension_of.Goals as goal

pub returns-in_default : goal.returns-in_default
returns-in_default c = λ s.
    none_found c.args.octets.now c.args.identifier.now (certificate_plain c.args.certificate.now) (ap tbs_extensions (sym c.tbs_certificate-tbs.ensures) ∙ sym c.in_default.ensures)

pub returns : goal.returns
returns c = λ s.
    let whole = c.args.octets.now in
    let it = certificate_plain c.args.certificate.now in
    let ids = c.parts_in.result.1.now in
    let behind = c.parts_in.ensures.rest it s in
    let es = extensions_plain c.as_slice.result.now in
    let some = ap tbs_extensions (sym c.tbs_certificate-tbs.ensures) ∙ sym c.in-Some.ensures ∙ ap (λ (l : List Extension). Some (extensions_plain l)) (sym c.as_slice.ensures.value) in
    let p : Behind ids it = record {
      first_there = c.is_some.result;
      first_is = c.is_some.ensures ∙ ap is_some c.issuer_unique_id.ensures ∙ ap (λ (t : Tbs). is_some (tbs_issuer_unique_id t)) c.tbs_certificate-tbs.ensures;
      second = c.behind_where-subject_id.result.now;
      second_rest = c.behind_where-subject_id.ensures.rest;
      second_behind = c.behind_where-subject_id.ensures.there;
      second_alone = c.behind_where-subject_id.ensures.absent;
      second_there = c.is_some-2.result;
      second_is = c.is_some-2.ensures ∙ ap is_some c.subject_unique_id.ensures ∙ ap (λ (t : Tbs). is_some (tbs_subject_unique_id t)) c.tbs_certificate-tbs.ensures;
      last = c.behind_where-field.result.now;
      last_rest = c.behind_where-field.ensures.rest;
      last_behind = c.behind_where-field.ensures.there;
      last_alone = c.behind_where-field.ensures.absent;
      list = c.inside-list.result.now;
      list_in = c.inside-list.ensures;
      rest = c.inside-rest.result.now;
      rest_in = c.inside-rest.ensures;
    } in
    some_found whole c.args.identifier.now it es c.extension_in.result some
    (c.extension_in.ensures behind.1.0 (before_list whole ids it s behind p es some) (list_valid whole ids it s behind p es some) (list_is whole ids it s behind p es some))
