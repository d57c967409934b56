-- Goals of `pieces::first_separator` that the checker doesn't prove by itself.
use Rattle.std.proofs.Common.{◌==◌, ap, sym, refl, ◌∙◌, take, get_or, arith, not, ◌&&◌}
use Rattle.std.proofs.lemmas.List.{take_more}
use Rattle.x509_cert_name_texts.proofs.PieceSteps.{is_escaped, is_escaped-push, none_in_front, none_more, found_counts, found_is}
use Rattle.x509_cert_name_texts.proofs.pieces.first_separator.Goals as goal

pub loop-i-init : goal.loop-i-init
loop-i-init c = record { open_escape = refl; none = λ k l e counts. absurd (omega arith) }

pub returns-then-is_end : goal.returns-then-is_end
returns-then-is_end c =
    let w = c.args.text.now in
    let i = c.loop-i.i in
    let test = sym c.is_end.ensures ∙ c.if-is_end.true in (
      c.loop-i-test.true,
      found_is (get_or w i 0) c.args.separator c.loop-i.escaped test,
      none_in_front c.args.separator w i (omega arith) c.loop-i.invariant.none,
      found_counts (get_or w i 0) c.args.separator (take i w) c.loop-i.escaped c.loop-i.invariant.open_escape test,
    )

pub loop-i-preserved : goal.loop-i-preserved
loop-i-preserved c =
    let w = c.args.text.now in
    let i = c.loop-i.i in
    record {
      open_escape = c.opens_escape-escaped.ensures ∙ ap (λ b. get_or w i 0 == 92 && not b) c.loop-i.invariant.open_escape ∙ sym (is_escaped-push (take i w) (get_or w i 0)) ∙ ap is_escaped (sym (take_more w i 0 c.loop-i-test.true));
      none = none_more c.args.separator w i c.loop-i.invariant.none (ap (λ b. get_or w i 0 == c.args.separator && not b) (sym c.loop-i.invariant.open_escape) ∙ sym c.is_end.ensures ∙ c.if-is_end.false);
    }

pub returns : goal.returns
returns c = λ k l e counts. c.loop-i.invariant.none k (omega arith) e counts
