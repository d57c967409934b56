-- The loop invariants of `set_of_ref::SetOfRef::get`.
use Rattle.std.proofs.Common.{◌≡◌, drop}
use Rattle.der_types_sets.specs.Lent.{members_lent}
use Rattle.der_types_sets.proofs.set_of_ref.SetOfRef.get.Given as goal

abbrev pub invariant-loop : goal.invariant-loop
invariant-loop g l = members_lent g.T.Shaped.shape g.T.Shaped.plain l.left ≡ drop l.counter (members_lent g.T.Shaped.shape g.T.Shaped.plain l.self)
