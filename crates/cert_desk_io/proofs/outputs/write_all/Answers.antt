-- Goals of `outputs::write_all`: the bytes of each write follow those before.
use Rattle.std.proofs.Common.{ℕ, arith, ◌∙◌, length-take, length-drop}
use Rattle.std.proofs.lemmas.List.{take_rest}
use Rattle.cert_desk_io.proofs.Given.{OnErr-by, gives-take}
use Rattle.cert_desk_io.proofs.outputs.write_all.Goals as goal

pub returns-in_err-sent-clause-cut : goal.returns-in_err-sent-clause-cut
returns-in_err-sent-clause-cut g c =
    OnErr-by c.from_residual.result _ (
      c.loop-sent.sent,
      omega arith,
      record {
        before = c.loop-sent.output;
        moved = c.loop-sent.invariant.given;
        sound = c.loop-sent.invariant.sound;
        stopped = c.in_err-sent.ensures.none_given;
        not_ended = λ ended. ended;
        once = c.in_err-sent.ensures.once;
      },
    )

pub loop-sent-preserved : goal.loop-sent-preserved
loop-sent-preserved g c = record {
  within = omega (arith, length-take {A = ℕ}, length-drop {A = ℕ}, c.in_ok-sent.ensures.bound);
  given = gives-take g.O.Output.gives g.met.O.Output.gives_in_turn _ _ _ c.args.text.now _ c.loop-sent.sent c.in_ok-sent.field-0 (take_rest c.args.text.now c.loop-sent.sent) c.loop-sent.invariant.given c.in_ok-sent.ensures.given;
  sound = c.in_ok-sent.ensures.sound ∙ c.loop-sent.invariant.sound;
}
