-- The files are opened and the questions are listed, or the stream isn't opened.
use Rattle.std.proofs.Common.{inl, inr, refl, subst, ◌∙◌}
use Rattle.cert_tool_explain.specs.DeskIo.Devices.{sink}
use Rattle.cert_tool_explain.specs.DeskIo.NamedInputs.{inputs}
use Rattle.cert_tool.specs.EarlyEnds.{IsReasonReported}
use Rattle.cert_tool.specs.NamedFiles.{IsOpenedAs, IsUnusable}
use Rattle.cert_tool.specs.QuestionRuns.{AreQuestionsReported}
use Rattle.cert_tool.proofs.chains.ask.Goals as goal

pub returns-in-Err-open : goal.returns-in-Err-open
returns-in-Err-open g c =
    let i = inputs g.I.Input.takes g.I.Input.is_ended g.I.Input.failures (g.F.NamedInputs.is_opened c.args.files.now) (g.F.NamedInputs.is_unopened c.args.files.now) in
    let stopped = subst (λ wanted. IsUnusable i (wanted, c.args.task.now.file.now) c.in-Err-open.status) c.chain_wanted.ensures c.in-Err-open.ensures.stopped in
    record {
      told = inr (
        refl,
        (
          inr (c.in-Ok.anchors, c.in-Ok.ensures.opened, inl stopped),
          subst (λ before. IsReasonReported (sink g.E.Output.gives g.E.Output.failures before c.open-2.new.err)) c.in-Ok.ensures.untold c.in-Err-open.ensures.reason,
        ),
      );
    }

pub returns : goal.returns
returns g c =
    let i = inputs g.I.Input.takes g.I.Input.is_ended g.I.Input.failures (g.F.NamedInputs.is_opened c.args.files.now) (g.F.NamedInputs.is_unopened c.args.files.now) in
    let out = sink g.O.Output.gives g.O.Output.failures c.args.out.now c.run_questions-status.new.out in
    let opened = subst (λ wanted. IsOpenedAs i (wanted, c.args.task.now.file.now) c.in-Ok-open.stream) c.chain_wanted.ensures c.in-Ok-open.ensures.opened in
    let told = c.run_questions-status.ensures.told in
    let reported =
    subst (λ before. AreQuestionsReported out (sink g.E.Output.gives g.E.Output.failures before c.run_questions-status.new.err) told.0 c.run_questions-status.result) (c.in-Ok-open.ensures.untold ∙ c.in-Ok.ensures.untold) told.2 in
    record {
      told = inl (
        c.in-Ok.anchors,
        c.run_questions-status.new.anchors,
        c.in-Ok.ensures.opened,
        (c.in-Ok-open.stream, c.run_questions-status.new.stream, opened, (told.0, told.1, (c.run_questions-status.new.err, reported))),
      );
    }
