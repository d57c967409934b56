-- Goals of `chains::explain` that the checker doesn't prove by itself.
use Rattle.std.proofs.Common.{ap, inl, inr, refl, subst}
use Rattle.cert_tool_explain.specs.DeskIo.Devices.{sink, source}
use Rattle.cert_tool.specs.declared.status.Status.TheVariants as forms
use Rattle.cert_tool.specs.Explaining.{IsExplained}
use Rattle.cert_tool_pem.specs.FileInputs.{HasEnded, Takes, failures_of}
use Rattle.cert_tool.specs.TaskRuns.{terms_at}
use Rattle.cert_tool.proofs.chains.explain.Goals as goal

pub returns-in_default : goal.returns-in_default
returns-in_default g c =
    record { told = inr (c.in_default.ensures.untimed, refl, c.report_unreadable_clock.ensures.told, ap forms.Exit c.report_unreadable_clock.ensures.status) }

pub returns : goal.returns
returns g c =
    let answers = source (Takes g.I.Input.takes) (HasEnded g.I.Input.is_ended) (failures_of g.I.Input.failures) c.in-Ok.opened.answers c.explain_chain-status.new.inputs.answers in
    let anchors = source (Takes g.I.Input.takes) (HasEnded g.I.Input.is_ended) (failures_of g.I.Input.failures) c.in-Ok.opened.anchors c.explain_chain-status.new.inputs.anchors in
    let stream = source (Takes g.I.Input.takes) (HasEnded g.I.Input.is_ended) (failures_of g.I.Input.failures) c.in-Ok.opened.stream c.explain_chain-status.new.inputs.stream in
    let out = sink g.O.Output.gives g.O.Output.failures c.args.out.now c.explain_chain-status.new.out in
    let opened = c.in-Ok.ensures in
    let told =
    subst (λ before. IsExplained answers anchors stream out (sink g.E.Output.gives g.E.Output.failures before c.explain_chain-status.new.err) (terms_at c.args.task.now c.in-Some.moment) c.explain_chain-status.result) opened.untold c.explain_chain-status.ensures.explained in
    record {
      told = inl (
        c.in-Some.moment,
        c.in-Some.ensures.meant,
        inl (
          c.in-Ok.opened.answers,
          c.explain_chain-status.new.inputs.answers,
          opened.answers,
          (c.in-Ok.opened.anchors, c.explain_chain-status.new.inputs.anchors, opened.anchors, (c.in-Ok.opened.stream, c.explain_chain-status.new.inputs.stream, opened.stream, (c.explain_chain-status.new.err, told))),
        ),
      );
    }

pub returns-in-Err : goal.returns-in-Err
returns-in-Err g c = record { told = inl (c.in-Some.moment, c.in-Some.ensures.meant, inr (refl, c.in-Err.ensures.stopped)) }
