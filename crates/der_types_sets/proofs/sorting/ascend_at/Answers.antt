-- Goals of `sorting::ascend_at` that the checker doesn't prove by itself.
use Rattle.std.proofs.Common.{arith, rules}
use Rattle.der_types_sets.proofs.SetSteps.{told}
use Rattle.der_types_sets.proofs.Arranged.{ascend_more}
use Rattle.der_types_sets.proofs.sorting.ascend_at.Goals as goal

pub loop-end-preserved : goal.loop-end-preserved
loop-end-preserved g c =
    let s = g.T.Shaped.shape in
    let f = g.T.Shaped.written in
    let x = c.in-Some-Some.member.now in
    let y = c.in-Some-Some.next.now in
    ascend_more s f c.args.members.now c.args.places.now c.loop-end.end x y (omega arith) (omega arith) c.loop-end.invariant c.in-Some-Some.ensures.lookup.3.1 c.in-Some-Some.ensures'.lookup.3.1
    (told s f x y c.der_cmp.result c.in-Ok-Less.field-0 c.in-Ok-Less.is (search rules) (c.der_cmp.ensures.order g.met.T.Member.apart))
