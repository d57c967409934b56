-- Goals of `verifying::fault_line` that the checker doesn't prove by itself.
use Rattle.std.proofs.Common.{rules, append_assoc}
use Rattle.cert_tool.proofs.verifying.fault_line.Goals as goal

pub returns : goal.returns
returns c = search (rules, append_assoc)
