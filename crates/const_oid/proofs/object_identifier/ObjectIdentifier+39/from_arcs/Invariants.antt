-- The loop invariants of `object_identifier::ObjectIdentifier<39>::from_arcs`.
use Rattle.std.proofs.Common.{◌≡◌, ◌<◌}
use Rattle.std.specs.Iterator.{IsFinite}
use Rattle.std.specs.List.{AllByRecursion}
use Rattle.const_oid.specs.ArcFaults.{IsFaultless}
use Rattle.const_oid.specs.Bound.{Bound}
use Rattle.const_oid.proofs.object_identifier.ObjectIdentifier+39.from_arcs.Given as goal

-- The collected arcs are the items taken so far, and have no error.
abbrev pub invariant-loop-arc : goal.invariant-loop-arc
invariant-loop-arc g l =
    g.I.IntoIter.Iterator.can_next l.rest × IsFinite (g.I.IntoIter.Iterator.remaining l.rest) × (l.so_far ≡ l.yielded) × AllByRecursion (λ n. n < Bound) l.yielded
    × IsFaultless 39 l.yielded
