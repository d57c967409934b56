-- Goals of `printing::write_each` that the checker doesn't prove by itself.
use Rattle.std.proofs.Common.{◌++◌, ◌==◌, length, append_assoc, ap, refl, ◌∙◌, false, chars}
use Rattle.std.proofs.Output.{has_written_append, has_written_of_eq}
use Rattle.std.specs.Str.Iter.{chars_rest}
use Rattle.std.proofs.lemmas.Str.{IsUtf8-past_char, chars_past_char}
use Rattle.x509_cert_name_texts.specs.Escapes.{escaped_char, escaped_from, escaped}
use Rattle.x509_cert_name_texts.proofs.TextSteps.{is_end-chars, escaped-step, escaped-end}
use Rattle.x509_cert_name_texts.proofs.printing.write_each.Goals as goal

pub loop-c-preserved : goal.loop-c-preserved
loop-c-preserved g c =
    let parts = c.in-Some.ensures.steps.0 in
    let old = chars_rest c.loop-c.left in
    let new = chars_rest c.next.new.self in
    let utf8 = IsUtf8-past_char old new c.in-Some.c c.loop-c.invariant.utf8 parts in
    record {
      utf8 = utf8;
      wrote = λ plain.
          let so_far = c.loop-c.invariant.wrote plain in
          let written = escaped_char c.loop-c.first c.is_empty-last.result c.in-Some.c in (
            so_far.0 ++ written,
            has_written_append _ _ _ _ _ _ so_far.1 (c.in_ok-write_escaped_char.ensures so_far.1.plain refl),
            append_assoc so_far.0 written (escaped_from false (chars new))
                ∙ ap (λ t. so_far.0 ++ t) (escaped-step c.loop-c.first c.is_empty-last.result c.in-Some.c (chars old) (chars new)
                (chars_past_char old new c.in-Some.c c.loop-c.invariant.utf8 parts) (c.is_empty-last.ensures ∙ ap (λ w. length w == 0) c.as_str.ensures ∙ is_end-chars new utf8))
                ∙ so_far.2,
          );
    }

pub returns : goal.returns
returns g c = λ plain ok.
    let so_far = c.loop-c.invariant.wrote plain in
    has_written_of_eq _ _ _ _ _
    (escaped-end c.loop-c.first (chars_rest c.loop-c.left) so_far.0 c.in_default.ensures.steps.0.0 ∙ so_far.2 ∙ ap (λ w. escaped (chars w)) c.chars-left.ensures.rest) so_far.1
