-- Goals of `questions::run_questions` that the checker doesn't prove by itself.
use Rattle.std.proofs.Common.{Ok, Err, string_bytes, refl, subst}
use Rattle.cert_tool_explain.specs.DeskIo.declared.exit_status.ExitStatus.TheVariants as statuses
use Rattle.cert_tool_explain.specs.DeskIo.Devices.{sink}
use Rattle.cert_tool_explain.specs.DeskIo.Telling.{IsAnswer}
use Rattle.cert_tool.proofs.questions.run_questions.Goals as goal

pub returns-in-Ok : goal.returns-in-Ok
returns-in-Ok g c =
    let out = sink g.O.Output.gives g.O.Output.failures c.args.out.now c.answer.new.out in
    let err = sink g.E.Output.gives g.E.Output.failures c.args.err.now c.answer.new.err in
    record {
      told = (
        Ok (string_bytes c.in-Ok.text),
        c.in-Ok.ensures.found,
        subst (λ w. IsAnswer out err w statuses.Done c.answer.result) c.as_bytes.ensures.value c.answer.ensures.told,
      );
    }

pub returns-in-Err : goal.returns-in-Err
returns-in-Err g c = record { told = (Err c.in-Err.outcome, c.in-Err.ensures.stopped, (refl, c.report_outcome.ensures)) }
