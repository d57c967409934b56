-- If memory runs out, that is the reason that is reported.
use Rattle.cert_tool_explain.specs.DeskIo.Devices.{sink}
use Rattle.cert_tool.proofs.ReportLaws.{memory_reason}
use Rattle.cert_tool.proofs.files.report_file_error.Goals as goal

pub returns-in-OutOfMemory-clause-reason : goal.returns-in-OutOfMemory-clause-reason
returns-in-OutOfMemory-clause-reason g c =
    memory_reason (sink g.E.Output.gives g.E.Output.failures c.args.err.now c.tell_memory.new.err) c.tell_memory.result c.tell_memory.ensures.told
