-- The task's file is opened and read, or it isn't, which is reported.
use Rattle.std.proofs.Common.{inl, inr, subst}
use Rattle.std.proofs.lemmas.Result.{IfErr-weaker, IfOk-weaker, err_from_is_err_and}
use Rattle.cert_tool_explain.specs.DeskIo.Devices.{sink, source}
use Rattle.cert_tool_explain.specs.DeskIo.NamedInputs.{inputs}
use Rattle.cert_tool_pem.specs.FileInputs.{HasEnded, Takes, failures_of}
use Rattle.cert_tool.specs.Explaining.{IsUnreadReported}
use Rattle.cert_tool.specs.NamedFiles.{IsOpenedAs, IsUnusable}
use Rattle.cert_tool.specs.OneValue.{IsReadIf}
use Rattle.cert_tool.proofs.reading.read_file.Goals as goal

pub returns-in_err-input-clause-unread : goal.returns-in_err-input-clause-unread
returns-in_err-input-clause-unread g c =
    let i = inputs g.I.Input.takes g.I.Input.is_ended g.I.Input.failures (g.F.NamedInputs.is_opened c.args.files.now) (g.F.NamedInputs.is_unopened c.args.files.now) in
    let p = err_from_is_err_and c.from_residual.result c.from_residual.ensures.1 in
    let stopped = subst (λ wanted. IsUnusable i (wanted, c.args.task.now.file.now) c.in_err-input.field-0.0) c.wanted_of.ensures c.in_err-input.ensures.stopped in
    rw (p.1, p.2) (inr (inl stopped, c.in_err-input.ensures.reason))

pub returns-clause-read : goal.returns-clause-read
returns-clause-read g c =
    let i = inputs g.I.Input.takes g.I.Input.is_ended g.I.Input.failures (g.F.NamedInputs.is_opened c.args.files.now) (g.F.NamedInputs.is_unopened c.args.files.now) in
    let input = source (Takes g.I.Input.takes) (HasEnded g.I.Input.is_ended) (failures_of g.I.Input.failures) c.in_ok-input.input c.read_input-octets.new.input in
    let opened = subst (λ wanted. IsOpenedAs i (wanted, c.args.task.now.file.now) c.in_ok-input.input) c.wanted_of.ensures c.in_ok-input.ensures.opened in
    IfOk-weaker c.read_input-octets.result _ _
    (λ octets read. (
      c.in_ok-input.input,
      c.read_input-octets.new.input,
      opened,
      subst (λ is_one. IsReadIf is_one input octets.items) c.takes_one-is_one.ensures read,
    ))
    c.read_input-octets.ensures.read

pub returns-clause-unread : goal.returns-clause-unread
returns-clause-unread g c =
    let i = inputs g.I.Input.takes g.I.Input.is_ended g.I.Input.failures (g.F.NamedInputs.is_opened c.args.files.now) (g.F.NamedInputs.is_unopened c.args.files.now) in
    let input = source (Takes g.I.Input.takes) (HasEnded g.I.Input.is_ended) (failures_of g.I.Input.failures) c.in_ok-input.input c.read_input-octets.new.input in
    let opened = subst (λ wanted. IsOpenedAs i (wanted, c.args.task.now.file.now) c.in_ok-input.input) c.wanted_of.ensures c.in_ok-input.ensures.opened in
    IfErr-weaker c.read_input-octets.result _ _
    (λ status unread. inl (
      c.in_ok-input.input,
      c.read_input-octets.new.input,
      opened,
      (c.read_input-octets.new.err, subst (λ before. IsUnreadReported input (sink g.E.Output.gives g.E.Output.failures before c.read_input-octets.new.err) status) c.in_ok-input.ensures.untold unread),
    ))
    c.read_input-octets.ensures.unread
