-- The loop invariants of `sorting::take_at`.
use Rattle.std.specs.Prelude.{◌≡◌, ◌≤◌, List, length, map, take, Some, vec_capacity}
use Rattle.der_types_sets.specs.Rearranged.{members_at}
use Rattle.der_types_sets.proofs.Arranged.{Untaken}
use Rattle.der_types_sets.proofs.sorting.take_at.Given as goal

abbrev pub invariant-loop-count : goal.invariant-loop-count
invariant-loop-count g l = record {
  long : length l.apart ≡ length l.fn.apart;
  capacity : vec_capacity l.taken ≡ vec_capacity l.fn.taken;
  few : length l.taken.items ≤ l.count;
  taken : (xs : List g.row.T.Denot) (d : g.row.T.Denot) → l.fn.apart ≡ map (λ x. Some x) xs → l.taken.items ≡ members_at xs d (take l.count l.places);
  left : (xs : List g.row.T.Denot) → l.fn.apart ≡ map (λ x. Some x) xs → Untaken xs l.places l.count l.apart;
}
