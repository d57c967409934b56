-- What was read, and the answer that was written or whose write failed.
use Rattle.std.proofs.Common.{ℕ, inr, refl, subst}
use Rattle.std.specs.Global.{Vec}
use Rattle.std.specs.Option.{option_map}
use Rattle.cert_tool_explain.specs.DeskIo.Devices.{IsCut, sink, source}
use Rattle.cert_tool_explain.specs.DeskIo.Frames.{IsNext}
use Rattle.cert_tool.specs.Serving.{IsReply, request_limit}
use Rattle.cert_tool.proofs.serving.answer_next.Goals as goal

pub returns-clause-unanswered : goal.returns-clause-unanswered
returns-clause-unanswered g c =
    inr (inr (
      c.in-Some.request.items,
      c.in_ok-answer.answer.items,
      subst (λ got. IsNext (source g.I.Input.takes g.I.Input.is_ended g.I.Input.failures c.args.input.now c.read_frame.new.input) request_limit (option_map (λ (content : Vec ℕ). content.items) got)) c.in-Some.is
          c.in_ok-request.ensures.next,
      subst (λ octets. IsReply (g.C.UnixClock.tells c.args.clock.now) octets c.in_ok-answer.answer.items) c.as_slice.ensures.value c.in_ok-answer.ensures.answer,
      subst (λ text. IsCut (sink g.O.Output.gives g.O.Output.failures c.args.output.now c.write_all.new.output) text) c.as_slice-2.ensures.value c.in-Err.ensures.cut,
      refl,
    ))
