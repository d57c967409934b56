-- Goals of `set_of_vec::SetOfVec::from_vec` that the checker doesn't prove by itself.
use Rattle.std.proofs.lemmas.Result.{err_from_is_err_and}
use Rattle.der_types_sets.proofs.Arranged.{stopped_too_long}
use Rattle.der_types_sets.proofs.set_of_vec.SetOfVec.from_vec.Goals as goal

pub returns-in_err-arrange_behind_first-clause-refused :
    goal.returns-in_err-arrange_behind_first-clause-refused
returns-in_err-arrange_behind_first-clause-refused g c =
    let h = c.in_err-arrange_behind_first.ensures.refused in
    let p = err_from_is_err_and c.from_residual.result c.from_residual.ensures.1 in
    rw (p.1, p.2) (stopped_too_long g.T.Shaped.shape g.T.Shaped.written 0 c.args.members.items c.arrange_behind_first.new.members.items h.0 c.in_err-arrange_behind_first.field-0.0 h.1)
