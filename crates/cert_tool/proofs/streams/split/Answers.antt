-- Goals of `streams::split` that the checker doesn't prove by itself.
use Rattle.std.proofs.Common.{inl, subst}
use Rattle.cert_tool_explain.specs.DeskIo.Devices.{sink}
use Rattle.cert_tool.specs.TaskRuns.{IsSplitAt}
use Rattle.cert_tool.proofs.streams.split.Goals as goal

pub returns : goal.returns
returns g c =
    let told = c.split_input-status.ensures in
    let out = sink g.O.Output.gives g.O.Output.failures c.args.out.now c.split_input-status.new.out in
    record {
      told = inl (
        c.in-Ok.stream,
        c.split_input-status.new.stream,
        c.in-Ok.ensures.opened,
        (
          told.0,
          told.1,
          (
            c.split_input-status.new.err,
            subst (λ before. IsSplitAt c.args.task.now.json c.args.task.now.place out (sink g.E.Output.gives g.E.Output.failures before c.split_input-status.new.err) told.0 c.split_input-status.result) c.in-Ok.ensures.untold told.2,
          ),
        ),
      );
    }
