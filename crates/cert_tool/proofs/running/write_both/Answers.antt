-- Goals of `running::write_both` that the checker doesn't prove by itself.
use Rattle.cert_tool_explain.specs.DeskIo.Devices.{sink}
use Rattle.cert_tool.proofs.ReportLaws.{OnErr-so, second_cut}
use Rattle.cert_tool.proofs.running.write_both.Goals as goal

pub returns-clause-cut : goal.returns-clause-cut
returns-clause-cut g c =
    OnErr-so c.write_all-2.result _ _
    (second_cut (sink g.O.Output.gives g.O.Output.failures c.args.out.now c.write_all.new.output) g.met.O.Output.gives_in_turn c.args.first.now c.args.second.now c.write_all-2.new.output c.in_ok-write_all.ensures.written)
    c.write_all-2.ensures.cut
