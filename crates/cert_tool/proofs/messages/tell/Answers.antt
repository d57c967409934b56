-- Goals of `messages::tell` that the checker doesn't prove by itself.
use Rattle.cert_tool_explain.specs.DeskIo.Devices.{sink}
use Rattle.cert_tool.proofs.ReportLaws.{reason_without_memory}
use Rattle.cert_tool.proofs.messages.tell.Goals as goal

pub returns-in-Err : goal.returns-in-Err
returns-in-Err g c =
    reason_without_memory (sink g.E.Output.gives g.E.Output.failures c.args.err.now c.write_all-in-Err.new.output) c.write_all-in-Err.result c.write_all-in-Err.ensures.written c.write_all-in-Err.ensures.cut
