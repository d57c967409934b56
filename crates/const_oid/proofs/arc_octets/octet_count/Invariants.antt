-- The loop invariants of `arc_octets::octet_count`.
use Rattle.std.proofs.Common.{◌≡◌, ◌+◌, ◌<◌, length}
use Rattle.const_oid.specs.IdentifierOctets.{arc_octets}
use Rattle.const_oid.specs.OctetFaults.{begun}
use Rattle.const_oid.proofs.arc_octets.octet_count.Given as goal

abbrev pub invariant-loop-high : goal.invariant-loop-high
invariant-loop-high l = (l.count + length (begun l.high) ≡ length (arc_octets l.arc)) × (0 < l.count)

abbrev pub decreases-loop-high : goal.decreases-loop-high
decreases-loop-high l = l.high

abbrev pub invariant-loop-word : goal.invariant-loop-word
invariant-loop-word l = (l.count + length (begun l.word) ≡ length (arc_octets l.arc)) × (0 < l.count)

abbrev pub decreases-loop-word : goal.decreases-loop-word
decreases-loop-word l = l.word
