-- Goals of `set_of_vec::SetOfVec::from_iter` that the checker doesn't prove by itself.
use Rattle.std.proofs.Common.{List, subst}
use Rattle.std.proofs.lemmas.Result.{err_from_is_err_and}
use Rattle.der_types_sets.specs.Sets.{StopsAt}
use Rattle.der_types_sets.proofs.set_of_vec.SetOfVec.from_iter.Goals as goal

pub returns-in_err-extend-clause-refused : goal.returns-in_err-extend-clause-refused
returns-in_err-extend-clause-refused g c =
    let p = err_from_is_err_and c.from_residual.result c.from_residual.ensures.1 in
    let P : List g.row.T.Denot → Type 0 = λ u. StopsAt g.T.Shaped.shape g.T.Shaped.written g.I.IntoIterator.into_iter_gives g.I.IntoIter.Iterator.next_gives c.args.items u c.extend.new.self c.in_err-extend.field-0.0 in
    rw (p.1, p.2) (c.extend.new.self, subst P c.new-set.ensures c.in_err-extend.ensures.refused)
