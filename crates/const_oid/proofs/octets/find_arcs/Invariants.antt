-- The loop invariants of `octets::find_arcs`.
use Rattle.std.proofs.Common.{◌≡◌, ◌+◌, ◌-◌, ◌≤◌, length, drop}
use Rattle.const_oid.specs.Bound.{Bound}
use Rattle.const_oid.specs.IdentifierOctets.{read_arcs}
use Rattle.const_oid.specs.Outcome.{outcome}
use Rattle.const_oid.proofs.LastArcLaws.{SoFar}
use Rattle.const_oid.proofs.octets.find_arcs.Given as goal

-- The result from the next arc on, with what was counted so far, is the result from the start.
abbrev pub invariant-loop-begun : goal.invariant-loop-begun
invariant-loop-begun l =
    (l.begun ≤ length l.octets)
    × (l.arc_count ≤ l.begun + 2)
    × (outcome (read_arcs Bound 0 l.octets) ≡ outcome (read_arcs Bound 0 (drop l.begun l.octets)))
    × SoFar l.octets (drop l.begun l.octets) l.arc_count l.last_start (l.begun + 1)

abbrev pub decreases-loop-begun : goal.decreases-loop-begun
decreases-loop-begun l = length l.octets - l.begun
