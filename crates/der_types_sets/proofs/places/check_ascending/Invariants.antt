-- The loop invariants of `places::check_ascending`.
use Rattle.std.proofs.Common.{take}
use Rattle.der_types_sets.specs.Sets.{Ascends}
use Rattle.der_types_sets.proofs.places.check_ascending.Given as goal

abbrev pub invariant-loop-end : goal.invariant-loop-end
invariant-loop-end g l = Ascends g.T.Shaped.shape g.T.Shaped.written (take l.end l.members)
