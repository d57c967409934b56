-- The loop invariants of `joined::joined_cmp`.
use Rattle.der_types_sets.proofs.LentOrders.{Remains}
use Rattle.der_types_sets.proofs.joined.joined_cmp.Given as goal

abbrev pub invariant-loop-value : goal.invariant-loop-value
invariant-loop-value g l = Remains g.T.Shaped.shape g.T.Shaped.written l.values l.octets l.value-index l.left
