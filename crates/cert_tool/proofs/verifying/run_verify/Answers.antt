-- The answers are read, and the result is reported with a verifier that they determine.
use Rattle.std.proofs.Common.{inl, inr, map, refl, subst}
use Rattle.cert_tool_explain.specs.DeskIo.Devices.{sink}
use Rattle.cert_tool_explain.specs.DeskRules.Answers.{answer_plain}
use Rattle.cert_tool_explain.specs.DeskRules.Judges.{judge_answers}
use Rattle.cert_tool.specs.DemandReports.{IsChainReported}
use Rattle.cert_tool.specs.EarlyEnds.{IsOutcomeReported}
use Rattle.cert_tool.proofs.verifying.run_verify.Goals as goal

pub returns-in-Ok-find_validated : goal.returns-in-Ok-find_validated
returns-in-Ok-find_validated g c =
    let out = sink g.O.Output.gives g.O.Output.failures c.args.out.now c.report_chain.new.out in
    let err = sink g.E.Output.gives g.E.Output.failures c.args.err.now c.report_chain.new.err in
    let found = c.in-Ok-find_validated.ensures in
    let octets = c.in-Ok-find_validated.octets.items in
    let cs = c.in-Ok-find_validated.bundle.certificates in
    let checked = c.in-Ok-find_validated.checked in
    let told = subst (λ w. IsChainReported c.args.terms.now (judge_answers c.find_validated.new.judge) w cs out err checked c.report_chain.result) c.as_slice.ensures.value c.report_chain.ensures.told in
    let reported = subst (λ a. IsChainReported c.args.terms.now a octets cs out err checked c.report_chain.result) c.find_validated.ensures.kept told in
    record {
      judged = inl (
        map answer_plain c.in-Ok.answers.items,
        c.new-judge.result,
        c.find_validated.new.judge,
        c.in-Ok.ensures.read,
        c.new-judge.ensures.answers,
        c.new-judge.ensures.questions,
        inl (checked, octets, c.in-Ok-find_validated.bundle, found.found, found.octets, found.fed, reported),
      );
    }

pub returns : goal.returns
returns g c =
    let err = sink g.E.Output.gives g.E.Output.failures c.args.err.now c.report_outcome.new.err in
    let reported = subst (λ outcome. IsOutcomeReported err outcome c.report_outcome.result) c.from.ensures c.report_outcome.ensures in
    record {
      judged = inl (
        map answer_plain c.in-Ok.answers.items,
        c.new-judge.result,
        c.find_validated.new.judge,
        c.in-Ok.ensures.read,
        c.new-judge.ensures.answers,
        c.new-judge.ensures.questions,
        inr (c.in-Err-find_validated.error, c.in-Err-find_validated.ensures.stopped, refl, reported),
      );
    }
