-- Goals of `places::arrange` that the checker doesn't prove by itself.
use Rattle.der_types_sets.proofs.Arranged.{stopped_too_long}
use Rattle.der_types_sets.proofs.places.arrange.Goals as goal

pub returns-in-Err-clause-refused : goal.returns-in-Err-clause-refused
returns-in-Err-clause-refused g c = stopped_too_long g.T.Shaped.shape g.T.Shaped.written 0 c.args.members.now _ _ c.in-Err.error c.in-Err.ensures.refused
