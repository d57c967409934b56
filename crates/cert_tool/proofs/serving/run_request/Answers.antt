-- Bytes whose text isn't UTF-8 aren't a request. If the text is UTF-8, its lines are the arguments.
use Rattle.std.proofs.Common.{List, ℕ, Bor, map, inl, inr, refl, ap, subst, ◌∙◌}
use Rattle.cert_tool_explain.specs.DeskIo.Devices.{sink}
use Rattle.cert_tool.specs.Serving.{request_inputs, argument_lines}
use Rattle.cert_tool.specs.SeveralFiles.{AreWordsRun}
use Rattle.cert_tool.proofs.ServingLaws.{no_request}
use Rattle.cert_tool.proofs.serving.run_request.Goals as goal

pub returns-in_default-from_utf8 : goal.returns-in_default-from_utf8
returns-in_default-from_utf8 g c =
    inr (no_request c.args.request.now c.in-Some.front.now c.in-Some.parts.now c.in-Some.ensures.some c.in-Some.ensures.short c.in_default-from_utf8.ensures.cases.0, refl, c.report_no_request-in_default-from_utf8.ensures.told, c.report_no_request-in_default-from_utf8.ensures.status)

pub returns : goal.returns
returns g c =
    inl (
      c.in-Some.front.now,
      c.in-Some.parts.now,
      (c.in-Some.ensures.some, c.in-Some.ensures.short, c.in-Ok.ensures.cases.1),
      subst (λ (words : List (List ℕ)). AreWordsRun (g.C.UnixClock.tells c.args.clock.now) (request_inputs c.in-Some.parts.now) (sink g.O.Output.gives g.O.Output.failures c.args.out.now c.obey_words-status.new.out)
          (sink g.E.Output.gives g.E.Output.failures c.args.err.now c.obey_words-status.new.err) words c.obey_words-status.result)
          (ap (map (λ (word : Bor (List ℕ)). word.now)) c.as_slice.ensures.value ∙ c.in_ok-words.ensures ∙ ap argument_lines c.in-Ok.ensures.cases.0) c.obey_words-status.ensures.obeyed,
    )
