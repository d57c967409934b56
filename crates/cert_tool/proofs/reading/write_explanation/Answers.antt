-- The status of an explanation without remarks is done, and its input is valid.
use Rattle.std.proofs.Common.{inl}
use Rattle.cert_tool.proofs.ReportLaws.{status_so}
use Rattle.cert_tool.proofs.reading.write_explanation.Goals as goal

pub returns-in-Ok : goal.returns-in-Ok
returns-in-Ok g c =
    inl (c.as_slice.result.now, c.status_by-status.result, status_so c.args.task.now.fails_on_remark c.status_by-status.result c.in-Ok.ensures c.status_by-status.ensures, c.answer.ensures.told)
