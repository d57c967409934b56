-- The loop invariants of `set_of_ref::SetOfRef::ref_to_owned`.
use Rattle.std.proofs.Common.{◌≡◌, ◌++◌}
use Rattle.der_core.specs.Grammar.{plain_list}
use Rattle.der_types_sets.specs.Lent.{members_lent}
use Rattle.der_types_sets.proofs.set_of_ref.SetOfRef.ref_to_owned.Given as goal

abbrev pub invariant-loop-member : goal.invariant-loop-member
invariant-loop-member g l = record {
  can : (goal.iterator-loop-member g).can_next l.member-iterator;
  ends : (goal.iterator-loop-member g).is_finite l.member-iterator;
  taken : plain_list g.T.Shaped.plain l.members.items ++ members_lent g.T.Shaped.shape g.T.Shaped.plain l.member-iterator ≡ members_lent g.T.Shaped.shape g.T.Shaped.plain l.self;
}
