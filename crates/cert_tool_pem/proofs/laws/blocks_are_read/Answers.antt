-- Goals of `laws::blocks_are_read` that the checker doesn't prove by itself.
use Rattle.cert_tool_pem.proofs.GrammarLaws.{blocks_are_read}
use Rattle.cert_tool_pem.proofs.laws.blocks_are_read.Goals as goal

pub returns : goal.returns
returns c = blocks_are_read
