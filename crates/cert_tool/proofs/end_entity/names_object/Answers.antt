-- The parts of the text, in their order.
use Rattle.std.proofs.Common.{rules, append_assoc}
use Rattle.cert_tool.proofs.end_entity.names_object.Goals as goal

pub returns : goal.returns
returns c = search (rules, append_assoc)
