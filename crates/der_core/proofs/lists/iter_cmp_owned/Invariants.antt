-- The loop invariants of `lists::iter_cmp_owned`.
use Rattle.std.proofs.Common.{List}
use Rattle.std.specs.Iterator.{AlwaysYields}
use Rattle.der_core_coding.specs.CoreHead.Shapes.{Value}
use Rattle.der_core.proofs.IterOrders.{At}
use Rattle.der_core.proofs.lists.iter_cmp_owned.Given as goal

abbrev pub invariant-loop-value : goal.invariant-loop-value
invariant-loop-value g l =
    (goal.iterator-loop-value g).can_next l.value-iterator
    × (goal.iterator-loop-value g).is_finite l.value-iterator
    × g.I.Iterator.can_next l.others
    × ((xs ys : List (Value g.T.Shaped.shape)) → AlwaysYields g.I.Iterator.next_gives g.T.Shaped.written l.fn.a xs → AlwaysYields g.I.Iterator.next_gives g.T.Shaped.written l.fn.b ys
    → At g.I.Iterator.next_gives g.T.Shaped.shape g.T.Shaped.written xs ys l.value-iterator l.others)
