-- The loop invariants of `places::place_of`.
use Rattle.std.proofs.Common.{◌-◌, ◌≤◌, length}
use Rattle.der_types_sets.specs.Sets.{Behind, Before}
use Rattle.der_types_sets.proofs.places.place_of.Given as goal

abbrev pub invariant-loop-low : goal.invariant-loop-low
invariant-loop-low g l = record {
  low : l.low ≤ l.high;
  high : l.high ≤ length l.members;
  behind : Behind g.T.Shaped.shape g.T.Shaped.written l.members l.item l.low;
  before : Before g.T.Shaped.shape g.T.Shaped.written l.members l.item l.high;
}

abbrev pub decreases-loop-low : goal.decreases-loop-low
decreases-loop-low g l = l.high - l.low
