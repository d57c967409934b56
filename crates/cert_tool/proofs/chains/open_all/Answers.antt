-- If a file can't be used, the files before it could, and nothing was reported about them.
use Rattle.std.proofs.Common.{inl, inr, subst, ◌∙◌}
use Rattle.std.proofs.lemmas.Result.{err_from_is_err_and}
use Rattle.cert_tool_explain.specs.DeskIo.Devices.{sink}
use Rattle.cert_tool_explain.specs.DeskIo.NamedInputs.{inputs}
use Rattle.cert_tool.specs.EarlyEnds.{IsReasonReported}
use Rattle.cert_tool.specs.NamedFiles.{IsUnusable}
use Rattle.cert_tool.proofs.chains.open_all.Goals as goal

pub returns-in_err-answers-clause-stopped : goal.returns-in_err-answers-clause-stopped
returns-in_err-answers-clause-stopped g c =
    let p = err_from_is_err_and c.from_residual.result c.from_residual.ensures.1 in
    rw (p.1, p.2) (inl c.in_err-answers.ensures.stopped, c.in_err-answers.ensures.reason)

pub returns-in_err-anchors-clause-stopped : goal.returns-in_err-anchors-clause-stopped
returns-in_err-anchors-clause-stopped g c =
    let p = err_from_is_err_and c.from_residual-in_err-anchors.result c.from_residual-in_err-anchors.ensures.1 in
    rw (p.1, p.2) (
      inr (c.in_ok-answers.answers, c.in_ok-answers.ensures.opened, inl c.in_err-anchors.ensures.stopped),
      subst (λ before. IsReasonReported (sink g.E.Output.gives g.E.Output.failures before c.open-2.new.err)) c.in_ok-answers.ensures.untold c.in_err-anchors.ensures.reason,
    )

pub returns-in_err-stream-clause-stopped : goal.returns-in_err-stream-clause-stopped
returns-in_err-stream-clause-stopped g c =
    let p = err_from_is_err_and c.from_residual-in_err-stream.result c.from_residual-in_err-stream.ensures.1 in
    let i = inputs g.I.Input.takes g.I.Input.is_ended g.I.Input.failures (g.F.NamedInputs.is_opened c.args.files.now) (g.F.NamedInputs.is_unopened c.args.files.now) in
    let stopped = subst (λ wanted. IsUnusable i (wanted, c.args.task.now.file.now) c.in_err-stream.field-0.0) c.chain_wanted.ensures c.in_err-stream.ensures.stopped in
    rw (p.1, p.2) (
      inr (c.in_ok-answers.answers, c.in_ok-answers.ensures.opened, inr (c.in_ok-anchors.anchors, c.in_ok-anchors.ensures.opened, inl stopped)),
      subst (λ before. IsReasonReported (sink g.E.Output.gives g.E.Output.failures before c.open-3.new.err)) (c.in_ok-anchors.ensures.untold ∙ c.in_ok-answers.ensures.untold) c.in_err-stream.ensures.reason,
    )
