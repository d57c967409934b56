-- The result is the concatenation of the values so far.
use Rattle.std.proofs.Common.{◌≡◌, map, take}
use Rattle.std.specs.List.{concat}
use Rattle.cert_tool_pem.proofs.blocks.joined.Given as goal

abbrev pub invariant-loop-value : goal.invariant-loop-value
invariant-loop-value l = l.octets.items ≡ concat (map (λ value. value.items) (take l.value-index l.fn.values))
