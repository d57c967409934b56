-- The loop invariants of `arcs::first_arc`.
use Rattle.std.proofs.Common.{◌≡◌, ◌<◌, true, drop}
use Rattle.std.specs.Result.{is_ok}
use Rattle.const_oid.specs.Bound.{Bound}
use Rattle.const_oid.specs.IdentifierOctets.{read_arcs}
use Rattle.const_oid.specs.Arcs.{later_arcs}
use Rattle.const_oid.proofs.arcs.first_arc.Given as goal

abbrev pub invariant-loop-i : goal.invariant-loop-i
invariant-loop-i l =
    (later_arcs 0 l.octets ≡ later_arcs l.value (drop l.i l.octets))
    × (is_ok (read_arcs Bound l.value (drop l.i l.octets)) ≡ true)
    × (0 < l.i → 0 < l.value)
