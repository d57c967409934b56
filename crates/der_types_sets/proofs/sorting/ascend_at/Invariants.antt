-- The loop invariants of `sorting::ascend_at`.
use Rattle.der_types_sets.specs.Rearranged.{AscendsAt}
use Rattle.der_types_sets.proofs.sorting.ascend_at.Given as goal

abbrev pub invariant-loop-end : goal.invariant-loop-end
invariant-loop-end g l = AscendsAt g.T.Shaped.shape g.T.Shaped.written l.members l.places l.end
