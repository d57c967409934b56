-- Goals of `value_texts::write_encoding` that the checker doesn't prove by itself.
use Rattle.std.proofs.Common.{refl, ap, ◌∙◌}
use Rattle.std.proofs.Output.{has_written_append, has_written_of_eq}
use Rattle.x509_cert_names.proofs.Printed.{encoding_printed}
use Rattle.x509_cert_names.proofs.value_texts.write_encoding.Goals as goal

pub returns : goal.returns
returns g c = λ plain ok.
    let head = c.in_ok-write_head.ensures plain refl in
    let content = c.write_hex.ensures head.plain ok in
    has_written_of_eq _ _ _ _ _
    (encoding_printed c.args.value.now c.tag.result c.length.result.value c.value.result.now
    (c.tag.ensures ∙ c.header-header.ensures.tag) (ap (λ l. l.value) c.length.ensures ∙ c.header-header.ensures.length) c.value.ensures)
    (has_written_append _ _ _ _ _ _ head content)
