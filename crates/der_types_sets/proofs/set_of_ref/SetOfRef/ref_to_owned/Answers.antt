-- Goals of `set_of_ref::SetOfRef::ref_to_owned` that the checker doesn't prove by itself.
use Rattle.std.proofs.Common.{rules}
use Rattle.der_types_sets.specs.Lent.{members_lent}
use Rattle.der_types_sets.proofs.SetSteps.{yielded}
use Rattle.der_types_sets.proofs.LentOrders.{taken_on, all_taken, taken_ascend}
use Rattle.der_types_sets.proofs.set_of_ref.SetOfRef.ref_to_owned.Goals as goal

pub of_members-requires : goal.of_members-requires
of_members-requires g c =
    let s = g.T.Shaped.shape in
    let f = g.T.Shaped.plain in
    let same = all_taken f c.loop-member.members.items (members_lent s f c.loop-member.member-iterator) (members_lent s f c.args.self.now) c.loop-member.invariant.taken c.in-None.ensures.steps.0 in
    let inside = rw (← c.self.view_is) at same in
    taken_ascend s g.T.Shaped.written f g.met.T.AsRead.as_read _ c.loop-member.members.items c.self.invariant inside

pub loop-member-preserved : goal.loop-member-preserved
loop-member-preserved g c =
    let s = g.T.Shaped.shape in
    let f = g.T.Shaped.plain in
    let next = yielded s f c.loop-member.member-iterator c.next.new.self c.in-Some.member c.in_ok-member.field-0 c.in_ok-member.was c.in-Some.ensures.steps in
    record {
      can = search rules;
      ends = tt;
      taken = rw c.in_ok-push.ensures.items
          (taken_on f c.loop-member.members.items c.in_ok-member.field-0 (members_lent s f c.loop-member.member-iterator) (members_lent s f c.next.new.self) (members_lent s f c.args.self.now) c.loop-member.invariant.taken next);
    }

pub returns-clause-ok : goal.returns-clause-ok
returns-clause-ok g c =
    let s = g.T.Shaped.shape in
    let f = g.T.Shaped.plain in
    rw c.of_members.ensures (all_taken f c.loop-member.members.items (members_lent s f c.loop-member.member-iterator) (members_lent s f c.args.self.now) c.loop-member.invariant.taken c.in-None.ensures.steps.0)
