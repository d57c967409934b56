-- Goals of `files::open` that the checker doesn't prove by itself.
use Rattle.std.proofs.Common.{ap, inl, inr, sym}
use Rattle.cert_tool_explain.specs.DeskIo.Devices.{sink}
use Rattle.cert_tool_explain.specs.DeskIo.NamedInputs.{unopened_status}
use Rattle.cert_tool.proofs.ReportLaws.{memory_reason}
use Rattle.cert_tool.proofs.files.open.Goals as goal

pub returns-in-Err-OutOfMemory-clause-stopped : goal.returns-in-Err-OutOfMemory-clause-stopped
returns-in-Err-OutOfMemory-clause-stopped g c = inl (c.in-Err-OutOfMemory.field-0, c.in-Err-OutOfMemory.ensures.unopened, ap unopened_status (sym c.in-Err-OutOfMemory.field-0-is))

pub returns-in-Err-OutOfMemory-clause-reason : goal.returns-in-Err-OutOfMemory-clause-reason
returns-in-Err-OutOfMemory-clause-reason g c = memory_reason (sink g.E.Output.gives g.E.Output.failures c.args.err.now c.tell_memory.new.err) c.tell_memory.result c.tell_memory.ensures.told

pub returns-in-Ok-input_of-clause-opened : goal.returns-in-Ok-input_of-clause-opened
returns-in-Ok-input_of-clause-opened g c =
    let stands = c.in-Ok-input_of.ensures.stands in
    (c.in-Ok.input, stands.0, c.in-Ok.ensures.opened, stands.1)

pub returns-in-Err-clause-stopped : goal.returns-in-Err-clause-stopped
returns-in-Err-clause-stopped g c =
    let unmeant = c.in-Err.ensures.unmeant in
    inr (c.in-Err.error, (c.in-Ok.input, unmeant.0, c.in-Ok.ensures.opened, unmeant.1), c.report_file_error.ensures.status)
