-- The loop invariants of `set_of_vec::SetOfVec::extend`.
use Rattle.std.proofs.Common.{◌≡◌}
use Rattle.der_types_sets.proofs.set_of_vec.SetOfVec.extend.Given as goal

abbrev pub invariant-loop-item : goal.invariant-loop-item
invariant-loop-item g l = record {
  can : (goal.iterator-loop-item g).can_next l.item-iterator;
  ends : (goal.iterator-loop-item g).is_finite l.item-iterator;
  items : l.came.items ≡ l.yielded;
  same : l.self ≡ l.initial.self;
}
