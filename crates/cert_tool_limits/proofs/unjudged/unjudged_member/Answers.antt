-- The text is that of the format.
use Rattle.std.proofs.Common.{rules, append_assoc}
use Rattle.cert_tool_limits.proofs.unjudged.unjudged_member.Goals as goal

pub returns : goal.returns
returns c = search (rules, append_assoc)
