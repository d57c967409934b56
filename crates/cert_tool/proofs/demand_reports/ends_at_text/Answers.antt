-- The parts of the text, in their order.
use Rattle.std.proofs.Common.{rules, append_assoc}
use Rattle.cert_tool.proofs.demand_reports.ends_at_text.Goals as goal

pub returns-then-json : goal.returns-then-json
returns-then-json c = rw c.if-json.true (search (rules, append_assoc))

pub returns-else-json : goal.returns-else-json
returns-else-json c = rw c.if-json.false (search (rules, append_assoc))
