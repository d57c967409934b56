-- Goals of `verifying::verdict_json` that the checker doesn't prove by itself.
use Rattle.std.proofs.Common.{rules, append_assoc}
use Rattle.cert_tool.proofs.verifying.verdict_json.Goals as goal

pub returns-in-Refused : goal.returns-in-Refused
returns-in-Refused c = rw c.in-Refused.is (search (rules, append_assoc))

pub returns-in-StreamFault : goal.returns-in-StreamFault
returns-in-StreamFault c = rw c.in-StreamFault.is (search (rules, append_assoc))
