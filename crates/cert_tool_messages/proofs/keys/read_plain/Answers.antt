-- If a private key is decoded, the bytes are the encoding of its abstract value, and else of none.
use Rattle.std.proofs.Common.{refl}
use Rattle.cert_tool_messages.proofs.keys.read_plain.Goals as goal

pub returns-in-Ok-clause-spelled : goal.returns-in-Ok-clause-spelled
returns-in-Ok-clause-spelled c = (_, c.in-Ok.ensures.spelled refl)

pub returns-in-Err-clause-refused : goal.returns-in-Err-clause-refused
returns-in-Err-clause-refused c = λ known read. c.in-Err.ensures.refused refl refl known read.0 read.1
