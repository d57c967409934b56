-- Goals of `rdn_sequence::write_before` that the checker doesn't prove by itself.
use Rattle.std.proofs.Common.{◌++◌, append_assoc, reverse, ap, refl, ◌∙◌, flat_map}
use Rattle.std.proofs.Output.{has_written_append, has_written_of_eq}
use Rattle.x509_cert_names.specs.NameTexts.{printed_behind, relative_printed}
use Rattle.x509_cert_names.proofs.Printed.{last_printed, end_printed}
use Rattle.x509_cert_names.proofs.rdn_sequence.write_before.Goals as goal

pub loop-last-preserved : goal.loop-last-preserved
loop-last-preserved g c = λ plain.
    let so_far = c.loop-last.invariant plain in
    let last = c.in-Some.last.now in
    let before = c.in-Some.before.now in
    let written = printed_behind 44 relative_printed last in (
      so_far.0 ++ written,
      has_written_append _ _ _ _ _ _ so_far.1 (c.in_ok-write_next.ensures so_far.1.plain refl),
      append_assoc so_far.0 written (flat_map (printed_behind 44 relative_printed) (reverse before))
          ∙ ap (λ t. so_far.0 ++ t) (last_printed c.loop-last.left.now before last c.in-Some.ensures.cases.0)
          ∙ so_far.2,
    )

pub returns : goal.returns
returns g c = λ plain ok.
    let so_far = c.loop-last.invariant plain in
    has_written_of_eq _ _ _ _ _ (end_printed c.loop-last.left.now so_far.0 c.in_default.ensures.cases ∙ so_far.2) so_far.1
