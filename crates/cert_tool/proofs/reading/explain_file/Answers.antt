-- The file is read and explained, or it can't be read, which is reported.
use Rattle.std.proofs.Common.{inl, inr, refl, subst, sym}
use Rattle.cert_tool_explain.specs.DeskIo.NamedInputs.{inputs}
use Rattle.cert_tool.specs.NamedFiles.{OnNamedFile}
use Rattle.cert_tool.specs.OneValue.{IsReadIf}
use Rattle.cert_tool.specs.TaskRuns.{takes_one, whole_file}
use Rattle.cert_tool.proofs.reading.explain_file.Goals as goal

pub returns-in-Ok : goal.returns-in-Ok
returns-in-Ok g c =
    let i = inputs g.I.Input.takes g.I.Input.is_ended g.I.Input.failures (g.F.NamedInputs.is_opened c.args.files.now) (g.F.NamedInputs.is_unopened c.args.files.now) in
    let read =
    subst (λ octets. OnNamedFile i (whole_file c.args.task.now) (λ input. IsReadIf (takes_one c.args.task.now.command) input octets)) (sym c.as_slice.ensures.value) c.in-Ok.ensures.read in
    record { told = inl (c.as_slice.result.now, read, (c.read_file.new.err, c.write_explanation.ensures)) }

pub returns-in-Err : goal.returns-in-Err
returns-in-Err g c = record { told = inr (refl, c.in-Err.ensures.unread) }
