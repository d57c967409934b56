-- The answers are read, and the chain is explained with them.
use Rattle.std.proofs.Common.{inl, map}
use Rattle.cert_tool_explain.specs.DeskRules.Answers.{answer_plain}
use Rattle.cert_tool.proofs.explaining.explain_chain.Goals as goal

pub returns-in-Ok : goal.returns-in-Ok
returns-in-Ok g c =
    record { explained = inl (map answer_plain c.in-Ok.answers.items, c.in-Ok.ensures.read, c.explain_by.ensures) }
