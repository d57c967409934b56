-- The loop of `request_inputs::are_whole` ends, since fewer bytes are left each time.
use Rattle.std.proofs.Common.{length}
use Rattle.cert_tool.proofs.request_inputs.are_whole.Given as goal

abbrev pub decreases-inputs : goal.decreases-inputs
decreases-inputs l = length l.left
