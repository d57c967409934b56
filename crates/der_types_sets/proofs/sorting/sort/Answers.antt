-- Goals of `sorting::sort` that the checker doesn't prove by itself.
use Rattle.der_types_sets.proofs.Arranged.{sorted_from}
use Rattle.der_types_sets.proofs.sorting.sort.Goals as goal

pub returns-in-Ok-clause-arranged : goal.returns-in-Ok-clause-arranged
returns-in-Ok-clause-arranged g c = λ _.
    (sorted_from g.T.Shaped.shape g.T.Shaped.written c.args.members.now.items c.as_slice.result.now c.in-Some.places.items c.as_slice-2.result.now c.rearrange.new.members.items c.as_slice.ensures.value c.as_slice-2.ensures.value c.requires
    c.in-Some.ensures.same c.in-Some.ensures.equals c.in-Some.ensures.ascend c.in-Ok.ensures.ok).0

pub returns-in-Ok-clause-ascend : goal.returns-in-Ok-clause-ascend
returns-in-Ok-clause-ascend g c = λ _.
    (sorted_from g.T.Shaped.shape g.T.Shaped.written c.args.members.now.items c.as_slice.result.now c.in-Some.places.items c.as_slice-2.result.now c.rearrange.new.members.items c.as_slice.ensures.value c.as_slice-2.ensures.value c.requires
    c.in-Some.ensures.same c.in-Some.ensures.equals c.in-Some.ensures.ascend c.in-Ok.ensures.ok).1
