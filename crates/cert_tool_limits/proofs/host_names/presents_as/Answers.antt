-- The cases in which the content can be decoded, and in which it can't.
use Rattle.std.specs.List.{list_any}
use Rattle.std.proofs.Common.{refl, sym, ap, ◌∙◌, arith}
use Rattle.std.proofs.lemmas.Bool.{both_ways}
use Rattle.x509_cert_anchors.specs.CertGeneralNames.GeneralNameViews.{general_name_plain}
use Rattle.x509_cert_anchors.specs.CertGeneralNames.GeneralNames.{general_names}
use Rattle.x509_cert_anchors.specs.Oid.Bound.{Bound}
use Rattle.cert_desk_bundle.specs.Der.Grammar.{plain_list}
use Rattle.cert_desk_rules.specs.Weighing.{other_names, subject_alt_name_in}
use Rattle.cert_desk_rules.proofs.Meanings.{meaning_read}
use Rattle.cert_tool_limits.specs.Limits.{is_of_host, presents_as}
use Rattle.cert_tool_limits.proofs.host_names.presents_as.Goals as goal

pub returns-in-Ok : goal.returns-in-Ok
returns-in-Ok c =
    let w = c.args.octets.now in
    let host = c.args.host.now in
    let says = meaning_read (general_names Bound) other_names w refl refl (λ i. omega (arith, c.type_inv.octets i)) in
    c.is_among.ensures
    ∙ ap (λ names. list_any (is_of_host host) (plain_list general_name_plain names)) c.as_slice.ensures.value
    ∙ sym (ap (presents_as host) (says _ c.in-Ok.ensures (subject_alt_name_in Bound w)))

pub returns-else-is_out_of_memory : goal.returns-else-is_out_of_memory
returns-else-is_out_of_memory c =
    let w = c.args.octets.now in
    let says = meaning_read (general_names Bound) other_names w refl refl (λ i. omega (arith, c.type_inv.octets i)) in
    sym (ap (presents_as c.args.host.now) (says _ (c.in-Err.ensures (λ memory. both_ways _ c.if-is_out_of_memory.false (c.is_out_of_memory.ensures.1 memory))) (subject_alt_name_in Bound w)))
