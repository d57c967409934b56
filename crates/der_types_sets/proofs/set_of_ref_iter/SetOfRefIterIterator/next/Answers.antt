-- Goals of `set_of_ref_iter::SetOfRefIterIterator::next` that the checker doesn't prove by itself.
use Rattle.std.proofs.Common.{List, length, ap, arith}
use Rattle.der_core.specs.Shapes.{Value}
use Rattle.der_types_sets.proofs.SetSteps.{front_lent}
use Rattle.der_types_sets.proofs.set_of_ref_iter.SetOfRefIterIterator.next.Goals as goal

pub invariant_of-self-in-Ok-first_member : goal.invariant_of-self-in-Ok-first_member
invariant_of-self-in-Ok-first_member g c = record { one = λ _. c.self-2.invariant.one (omega arith); spelled = c.in-Ok-first_member.ensures.left }

pub returns-in-Ok-first_member-clause-steps : goal.returns-in-Ok-first_member-clause-steps
returns-in-Ok-first_member-clause-steps g c =
    let l = c.self-2.inside in
    rw (← c.self-2.view_is)
    (front_lent g.T.Shaped.shape g.T.Shaped.plain l.values.now l.count l.octets.now (g.T.Shaped.plain c.in-Ok-first_member.value) c.in-Ok-first_member.octets.now (c.self-2.invariant.one (omega arith)) c.in-Ok-first_member.ensures.first)

pub returns-in-Ok-first_member-clause-goes : goal.returns-in-Ok-first_member-clause-goes
returns-in-Ok-first_member-clause-goes g c =
    let l = c.self-2.inside in
    let steps =
    front_lent g.T.Shaped.shape g.T.Shaped.plain l.values.now l.count l.octets.now (g.T.Shaped.plain c.in-Ok-first_member.value) c.in-Ok-first_member.octets.now (c.self-2.invariant.one (omega arith)) c.in-Ok-first_member.ensures.first in
    let fewer = ap (λ (x : List (Value g.T.Shaped.shape)). length x) steps in
    rw (← c.self-2.view_is) (record { on = λ _. (c.requires, tt, omega (arith, fewer)); keeps = c.requires; rests = λ _. tt })
