-- Goals of `verifying::report_none` that the checker doesn't prove by itself.
use Rattle.std.proofs.Common.{inl, sym, ◌∙◌, subst}
use Rattle.cert_tool_explain.specs.DeskIo.declared.exit_status.ExitStatus.TheVariants as statuses
use Rattle.cert_tool_explain.specs.DeskIo.Devices.{sink}
use Rattle.cert_tool_explain.specs.DeskIo.Telling.{IsComplaint}
use Rattle.cert_tool.specs.Verifying.{IsMissingAnswersReported}
use Rattle.cert_tool.proofs.verifying.report_none.Goals as goal

pub returns-in-Ok : goal.returns-in-Ok
returns-in-Ok g c =
    let err = sink g.E.Output.gives g.E.Output.failures c.args.err.now c.complain.new.err in
    let text = c.as_bytes.ensures.value ∙ c.in-Ok.ensures in
    let told = subst (λ w. IsComplaint err w statuses.Arguments c.complain.result) text c.complain.ensures.told in
    subst (λ none. IsMissingAnswersReported err none c.complain.result) (sym c.in-Line.is) (inl told)

pub returns-in-TooMuch : goal.returns-in-TooMuch
returns-in-TooMuch g c =
    let err = sink g.E.Output.gives g.E.Output.failures c.args.err.now c.complain-in-TooMuch.new.err in
    subst (λ none. IsMissingAnswersReported err none c.complain-in-TooMuch.result) (sym c.in-TooMuch.is) c.complain-in-TooMuch.ensures.told
