-- Goals of `streams::reverse` that the checker doesn't prove by itself.
use Rattle.std.proofs.Common.{inl, subst}
use Rattle.cert_tool_explain.specs.DeskIo.Devices.{sink}
use Rattle.cert_tool.specs.Splitting.{IsReversed}
use Rattle.cert_tool.proofs.streams.reverse.Goals as goal

pub returns : goal.returns
returns g c =
    let told = c.run_reverse-status.ensures.told in
    let out = sink g.O.Output.gives g.O.Output.failures c.args.out.now c.run_reverse-status.new.out in
    record {
      told = inl (
        c.in-Ok.stream,
        c.run_reverse-status.new.stream,
        c.in-Ok.ensures.opened,
        (
          told.0,
          told.1,
          (
            c.run_reverse-status.new.err,
            subst (λ before. IsReversed out (sink g.E.Output.gives g.E.Output.failures before c.run_reverse-status.new.err) told.0 c.run_reverse-status.result) c.in-Ok.ensures.untold told.2,
          ),
        ),
      );
    }
