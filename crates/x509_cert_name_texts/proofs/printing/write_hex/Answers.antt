-- Goals of `printing::write_hex` that the checker doesn't prove by itself.
use Rattle.std.proofs.Common.{[], ap, sym, refl, ◌∙◌, take}
use Rattle.std.proofs.Output.{has_written_append, has_written_of_eq}
use Rattle.std.proofs.lemmas.List.{take_more, flat_map_more}
use Rattle.x509_cert_name_texts.specs.Escapes.{hex_digits, in_hex}
use Rattle.x509_cert_name_texts.proofs.printing.write_hex.Goals as goal

pub loop-octet-preserved : goal.loop-octet-preserved
loop-octet-preserved g c = λ plain.
    let w = c.args.octets.now in
    let i = c.loop-octet.octet-index in
    let so_far = c.loop-octet.invariant plain in
    has_written_of_eq _ _ _ _ _
    (flat_map_more hex_digits [] (take i w) _ ∙ ap in_hex (sym (take_more w i 0 c.loop-octet-test.true)))
    (has_written_append _ _ _ _ _ _ so_far (c.in_ok-write_hex_octet.ensures so_far.plain refl))
