-- Goals of `chains::verify` that the checker doesn't prove by itself.
use Rattle.std.proofs.Common.{ap, inl, inr, refl, subst}
use Rattle.cert_tool_explain.specs.DeskIo.Devices.{sink, source}
use Rattle.cert_tool_pem.specs.FileInputs.{HasEnded, Takes, failures_of}
use Rattle.cert_tool.specs.declared.status.Status.TheVariants as forms
use Rattle.cert_tool.specs.TaskRuns.{IsValidated, terms_at}
use Rattle.cert_tool.proofs.chains.verify.Goals as goal

pub returns-in_default : goal.returns-in_default
returns-in_default g c =
    record { told = inr (c.in_default.ensures.untimed, refl, c.report_unreadable_clock.ensures.told, ap forms.Exit c.report_unreadable_clock.ensures.status) }

pub returns : goal.returns
returns g c =
    let answers = source (Takes g.I.Input.takes) (HasEnded g.I.Input.is_ended) (failures_of g.I.Input.failures) c.in-Ok.opened.answers c.run_verify-status.new.inputs.answers in
    let anchors = source (Takes g.I.Input.takes) (HasEnded g.I.Input.is_ended) (failures_of g.I.Input.failures) c.in-Ok.opened.anchors c.run_verify-status.new.inputs.anchors in
    let stream = source (Takes g.I.Input.takes) (HasEnded g.I.Input.is_ended) (failures_of g.I.Input.failures) c.in-Ok.opened.stream c.run_verify-status.new.inputs.stream in
    let out = sink g.O.Output.gives g.O.Output.failures c.args.out.now c.run_verify-status.new.out in
    let opened = c.in-Ok.ensures in
    let told =
    subst (λ before. IsValidated answers anchors stream out (sink g.E.Output.gives g.E.Output.failures before c.run_verify-status.new.err) (terms_at c.args.task.now c.in-Some.seconds) c.run_verify-status.result) opened.untold c.run_verify-status.ensures.judged in
    record {
      told = inl (
        c.in-Some.seconds,
        c.in-Some.ensures.meant,
        inl (
          c.in-Ok.opened.answers,
          c.run_verify-status.new.inputs.answers,
          opened.answers,
          (c.in-Ok.opened.anchors, c.run_verify-status.new.inputs.anchors, opened.anchors, (c.in-Ok.opened.stream, c.run_verify-status.new.inputs.stream, opened.stream, (c.run_verify-status.new.err, told))),
        ),
      );
    }

pub returns-in-Err : goal.returns-in-Err
returns-in-Err g c = record { told = inl (c.in-Some.seconds, c.in-Some.ensures.meant, inr (refl, c.in-Err.ensures.stopped)) }
