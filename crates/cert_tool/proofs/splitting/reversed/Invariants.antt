-- The bytes are those of the certificates from this index on, the last one first.
use Rattle.std.proofs.Common.{◌≡◌, ◌≤◌, length, drop}
use Rattle.cert_tool.specs.Splitting.{reversed}
use Rattle.cert_tool.proofs.splitting.reversed.Given as goal

abbrev pub invariant-loop-left : goal.invariant-loop-left
invariant-loop-left l = (l.left ≤ length l.fn.bundle.certificates) × (l.octets.items ≡ reversed (drop l.left l.fn.bundle.certificates))

abbrev pub decreases-loop-left : goal.decreases-loop-left
decreases-loop-left l = l.left
