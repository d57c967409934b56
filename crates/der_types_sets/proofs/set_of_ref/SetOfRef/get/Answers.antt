-- Goals of `set_of_ref::SetOfRef::get` that the checker doesn't prove by itself.
use Rattle.std.proofs.Common.{◌≡◌, ℕ, suc, ◌+◌, sym, ap, ◌∙◌, arith, drop}
use Rattle.der_core.proofs.IterOrders.{next_left}
use Rattle.der_types_sets.specs.Lent.{members_lent}
use Rattle.der_types_sets.proofs.SetSteps.{none_at, yielded}
use Rattle.der_types_sets.proofs.set_of_ref.SetOfRef.get.Goals as goal

pub returns-in_default-next-clause-ok : goal.returns-in_default-next-clause-ok
returns-in_default-next-clause-ok g c =
    let xs = members_lent g.T.Shaped.shape g.T.Shaped.plain c.args.self.now in
    sym (none_at xs c.loop.counter c.args.index (sym c.loop.invariant ∙ c.in_default-next.ensures.steps.0) (omega arith))

pub loop-preserved : goal.loop-preserved
loop-preserved g c =
    let s = g.T.Shaped.shape in
    let f = g.T.Shaped.plain in
    let xs = members_lent s f c.args.self.now in
    let step = yielded s f c.loop.left c.next.new.self c.in-Some-next.member c.in_ok-_passed._passed c.in_ok-_passed.was c.in-Some-next.ensures.steps in
    let more : suc c.loop.counter ≡ c.loop.counter + 1 = omega arith in
    (next_left xs c.loop.counter (f c.in_ok-_passed._passed) (members_lent s f c.next.new.self) (sym c.loop.invariant ∙ step)).1 ∙ ap (λ n. drop n xs) more

pub returns-in_default-next-2-clause-ok : goal.returns-in_default-next-2-clause-ok
returns-in_default-next-2-clause-ok g c =
    let xs = members_lent g.T.Shaped.shape g.T.Shaped.plain c.args.self.now in
    sym (none_at xs c.loop.counter c.args.index (sym c.loop.invariant ∙ c.in_default-next-2.ensures.steps.0) (omega arith))

pub returns-clause-ok : goal.returns-clause-ok
returns-clause-ok g c =
    let s = g.T.Shaped.shape in
    let f = g.T.Shaped.plain in
    let xs = members_lent s f c.args.self.now in
    let last : c.loop.counter ≡ c.args.index = omega arith in
    let step = yielded s f c.loop.left c.next-2.new.self c.in-Some-next-2.member c.in_ok-member.member c.in_ok-member.was c.in-Some-next-2.ensures.steps in
    sym (next_left xs c.args.index (f c.in_ok-member.member) (members_lent s f c.next-2.new.self) (ap (λ (i : ℕ). drop i xs) (sym last) ∙ sym c.loop.invariant ∙ step)).0
