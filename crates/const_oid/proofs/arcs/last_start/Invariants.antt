-- The loop invariants of `arcs::last_start`.
use Rattle.std.proofs.Common.{◌≡◌, ◌+◌, ◌-◌, ◌<◌, length, take}
use Rattle.const_oid.specs.PackedOctets.{unmarked_front}
use Rattle.const_oid.proofs.arcs.last_start.Given as goal

-- The bytes from here to the last one, without it, were tested and have bit 8 set.
abbrev pub invariant-loop-start : goal.invariant-loop-start
invariant-loop-start l =
    (l.start < length l.octets)
    × (unmarked_front (take l.start l.octets) ≡ unmarked_front (take (length l.octets - 1) l.octets))
    × (l.tests + l.start + 1 ≡ length l.octets)

abbrev pub decreases-loop-start : goal.decreases-loop-start
decreases-loop-start l = l.start
