-- If a SignedData is decoded, the bytes are the encoding of its abstract value.
use Rattle.std.proofs.Common.{refl}
use Rattle.cert_tool_messages.proofs.messages.SignedDescribe.read_content.Goals as goal

pub returns : goal.returns
returns c = record { spelled = (_, c.in_ok-from_der.ensures.spelled refl) }
