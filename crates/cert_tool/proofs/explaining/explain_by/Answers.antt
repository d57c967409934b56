-- The trust anchors are read, and the chain is explained under them.
use Rattle.std.proofs.Common.{inl, map, subst, sym}
use Rattle.cert_tool_explain.specs.DeskIo.Devices.{sink, source}
use Rattle.cert_tool_explain.specs.DeskIo.Whole.{IsWhole, most_octets}
use Rattle.cert_tool_explain.specs.DeskRules.Answers.{answer_plain, only_yes_to}
use Rattle.cert_tool.specs.Explaining.{IsExplainedOf}
use Rattle.cert_tool.proofs.explaining.explain_by.Goals as goal

pub returns-in-Ok : goal.returns-in-Ok
returns-in-Ok g c =
    let anchors = source g.I.Input.takes g.I.Input.is_ended g.I.Input.failures c.args.anchors.now c.read_input.new.input in
    let stream = source g.I.Input.takes g.I.Input.is_ended g.I.Input.failures c.args.stream.now c.explain_under.new.stream in
    let out = sink g.O.Output.gives g.O.Output.failures c.args.out.now c.explain_under.new.out in
    let answers = only_yes_to (map answer_plain c.args.answers.items) in
    inl (
      c.as_slice.result.now,
      subst (λ octets. IsWhole anchors most_octets octets) (sym c.as_slice.ensures.value) c.in-Ok.ensures.read,
      subst (λ before. IsExplainedOf c.as_slice.result.now stream out (sink g.E.Output.gives g.E.Output.failures before c.explain_under.new.err) c.args.terms.now answers c.explain_under.result) c.in-Ok.ensures.untold
          c.explain_under.ensures,
    )
