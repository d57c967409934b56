-- Goals of `strict_set_of::check_follows` that the checker doesn't prove by itself.
use Rattle.der_core.proofs.IterOrders.{not_refused}
use Rattle.der_core.proofs.strict_set_of.check_follows.Goals as goal

pub returns-in_err-der_cmp : goal.returns-in_err-der_cmp
returns-in_err-der_cmp g c =
    absurd (not_refused g.T.Shaped.shape (g.T.Shaped.written c.in-Some.last.now) (g.T.Shaped.written c.args.value.now) c.in_err-der_cmp.field-0.0 c.in_err-der_cmp.ensures.refused
    (rw c.in-Some.is at c.requires.before) c.requires.fits)
