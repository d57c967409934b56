-- The loop invariants of `places::arrange_from`.
use Rattle.std.specs.Prelude.{◌≡◌, ◌≤◌, take, drop, IsPermutation}
use Rattle.der_types_sets.specs.Sets.{Ascends, IsArranged}
use Rattle.der_types_sets.proofs.places.arrange_from.Given as goal

abbrev pub invariant-loop-end : goal.invariant-loop-end
invariant-loop-end g l = record {
  least : l.first ≤ l.end;
  same : IsPermutation l.fn.members l.members;
  ascend : Ascends g.T.Shaped.shape g.T.Shaped.written (take l.end l.members);
  arranged : IsArranged g.T.Shaped.shape g.T.Shaped.written (take l.end l.fn.members) (take l.end l.members);
  behind : drop l.end l.members ≡ drop l.end l.fn.members;
}
