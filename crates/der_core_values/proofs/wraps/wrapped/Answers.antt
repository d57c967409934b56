-- Goals of `wraps::wrapped` that the checker doesn't prove by itself.
use Rattle.der_core_values.proofs.wraps.wrapped.Goals as goal

pub returns : goal.returns
returns g c = g.met.T.Wraps.made c.args.field c.from.result c.from.ensures
