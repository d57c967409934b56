-- The result is the concatenation of the values from this index on, the last one first.
use Rattle.std.proofs.Common.{◌≡◌, ◌≤◌, length, map, drop, reverse}
use Rattle.std.specs.List.{concat}
use Rattle.cert_tool_pem.proofs.blocks.joined_back.Given as goal

abbrev pub invariant-loop-left : goal.invariant-loop-left
invariant-loop-left l = (l.left ≤ length l.fn.values) × (l.octets.items ≡ concat (reverse (map (λ value. value.items) (drop l.left l.fn.values))))

abbrev pub decreases-loop-left : goal.decreases-loop-left
decreases-loop-left l = l.left
