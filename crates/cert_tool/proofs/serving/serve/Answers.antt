-- The next answer is written after those before it, or what ends the run is reported.
use Rattle.std.proofs.Common.{[], inl, inr, refl, subst}
use Rattle.cert_tool_explain.specs.DeskIo.Devices.{sink}
use Rattle.cert_tool_explain.specs.DeskIo.declared.frame_error.FrameError.TheVariants as errors
use Rattle.cert_tool.specs.Serving.{IsServingErrorReported, none}
use Rattle.cert_tool.proofs.ServingLaws.{ended, one_more}
use Rattle.cert_tool.proofs.serving.serve.Goals as goal

pub requests-init : goal.requests-init
requests-init g c = record {
  served = ([], [], none, g.met.I.Input.takes_nothing c.args.input.now, refl, g.met.O.Output.gives_nothing c.args.output.now, refl);
  untold = refl;
}

pub requests-preserved : goal.requests-preserved
requests-preserved g c = record {
  served =
      one_more (g.C.UnixClock.tells c.args.clock.now) g.I.Input.takes g.I.Input.is_ended g.I.Input.failures g.O.Output.gives g.O.Output.failures g.met.I.Input.takes_in_turn g.met.O.Output.gives_in_turn
      c.args.input.now c.requests.input c.answer_next.new.input c.args.output.now c.requests.output c.answer_next.new.output c.in-Ok-true.field-0 c.requests.invariant.served
      c.in-Ok-true.ensures.answered c.in-Ok-true.field-0-test;
  untold = c.requests.invariant.untold;
}

pub returns-in-Ok-false : goal.returns-in-Ok-false
returns-in-Ok-false g c =
    let so_far = c.requests.invariant.served in
    record {
      served = (
        so_far.0,
        so_far.1,
        so_far.2,
        c.requests.input,
        c.requests.output,
        so_far.3,
        so_far.4,
        (so_far.5, so_far.6),
        inl (
          ended (g.C.UnixClock.tells c.args.clock.now) g.I.Input.takes g.I.Input.is_ended g.I.Input.failures g.O.Output.gives g.O.Output.failures c.requests.input c.answer_next.new.input c.requests.output c.answer_next.new.output
              c.in-Ok-false.field-0 c.in-Ok-false.ensures.answered c.in-Ok-false.field-0-test,
          c.requests.invariant.untold,
          refl,
        ),
      );
    }

pub returns-in-Err : goal.returns-in-Err
returns-in-Err g c =
    let so_far = c.requests.invariant.served in
    record {
      served = (
        so_far.0,
        so_far.1,
        so_far.2,
        c.requests.input,
        c.requests.output,
        so_far.3,
        so_far.4,
        (so_far.5, so_far.6),
        inr (
          c.in-Err.error,
          c.in-Err.ensures.unanswered,
          subst (λ before. IsServingErrorReported (sink g.E.Output.gives g.E.Output.failures before c.report_serving_error.new.err) c.in-Err.error c.report_serving_error.result) c.requests.invariant.untold
              c.report_serving_error.ensures,
        ),
      );
    }

pub returns : goal.returns
returns g c =
    let so_far = c.requests.invariant.served in
    record {
      served = (
        so_far.0,
        so_far.1,
        so_far.2,
        c.requests.input,
        c.requests.output,
        so_far.3,
        so_far.4,
        (so_far.5, so_far.6),
        inr (
          errors.OutOfMemory,
          inl (([], g.met.I.Input.takes_nothing c.requests.input, refl), refl),
          subst (λ before. IsServingErrorReported (sink g.E.Output.gives g.E.Output.failures before c.report_serving_error-2.new.err) errors.OutOfMemory c.report_serving_error-2.result) c.requests.invariant.untold
              c.report_serving_error-2.ensures,
        ),
      );
    }
