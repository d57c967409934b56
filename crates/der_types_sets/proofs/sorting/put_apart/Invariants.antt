-- The loop invariants of `sorting::put_apart`.
use Rattle.std.specs.Prelude.{◌≡◌, ◌++◌, map, Some, vec_capacity}
use Rattle.der_types_sets.proofs.sorting.put_apart.Given as goal

abbrev pub invariant-loop-member : goal.invariant-loop-member
invariant-loop-member g l = record {
  can : (goal.iterator-loop-member g).can_next l.member-iterator;
  ends : (goal.iterator-loop-member g).is_finite l.member-iterator;
  all : l.yielded ++ l.member-iterator.rest.items ≡ l.fn.members.items;
  items : l.apart.items ≡ l.initial.apart.items ++ map (λ x. Some x) l.yielded;
  capacity : vec_capacity l.apart ≡ vec_capacity l.initial.apart;
}
