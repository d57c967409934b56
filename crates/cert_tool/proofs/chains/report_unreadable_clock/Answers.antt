-- Goals of `chains::report_unreadable_clock` that the checker doesn't prove by itself.
use Rattle.cert_tool_explain.specs.DeskIo.Devices.{sink}
use Rattle.cert_tool.specs.TaskRuns.{clock_line}
use Rattle.cert_tool.proofs.ReportLaws.{tried}
use Rattle.cert_tool.proofs.chains.report_unreadable_clock.Goals as goal

pub returns-clause-told : goal.returns-clause-told
returns-clause-told g c =
    tried (sink g.E.Output.gives g.E.Output.failures c.args.err.now c.write_all.new.output) clock_line c.write_all.result c.write_all.ensures.written c.write_all.ensures.cut
