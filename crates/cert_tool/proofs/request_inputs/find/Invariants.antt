-- The inputs of this name in the remaining frames are those of all frames.
use Rattle.std.proofs.Common.{List, ℕ, length}
use Rattle.cert_tool.specs.SentInputs.{IsInputOf}
use Rattle.cert_tool.proofs.request_inputs.find.Given as goal

abbrev pub invariant-inputs : goal.invariant-inputs
invariant-inputs l = (octets : List ℕ) → (IsInputOf l.name octets l.left → IsInputOf l.name octets l.fn.parts) × (IsInputOf l.name octets l.fn.parts → IsInputOf l.name octets l.left)

abbrev pub decreases-inputs : goal.decreases-inputs
decreases-inputs l = length l.left
