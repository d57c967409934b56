-- The loop invariants of `arcs::arc_at`.
use Rattle.std.proofs.Common.{◌≡◌, drop}
use Rattle.const_oid.specs.Arcs.{arcs_of}
use Rattle.const_oid.specs.References.{remaining_arcs}
use Rattle.const_oid.proofs.arcs.arc_at.Given as goal

abbrev pub invariant-loop-before : goal.invariant-loop-before
invariant-loop-before l = remaining_arcs l.arcs ≡ drop l._before (arcs_of l.octets)
