-- Goals of `lists::elements_cmp` that the checker doesn't prove by itself.
use Rattle.der_core_coding.specs.CoreHead.Grammar.{plain_list}
use Rattle.der_core.proofs.IterOrders.{slice_lends}
use Rattle.der_core.proofs.lists.elements_cmp.Goals as goal

pub returns-clause-order : goal.returns-clause-order
returns-clause-order g c =
    c.iter_cmp.ensures.order (plain_list g.T.Shaped.written c.args.a.now) (plain_list g.T.Shaped.written c.args.b.now)
    (slice_lends g.T.Shaped.written c.iter.result c.args.a.now (cc)) (slice_lends g.T.Shaped.written c.iter-2.result c.args.b.now (cc))

pub returns-clause-exact : goal.returns-clause-exact
returns-clause-exact g c =
    c.iter_cmp.ensures.exact (plain_list g.T.Shaped.written c.args.a.now) (plain_list g.T.Shaped.written c.args.b.now)
    (slice_lends g.T.Shaped.written c.iter.result c.args.a.now (cc)) (slice_lends g.T.Shaped.written c.iter-2.result c.args.b.now (cc))

pub returns-clause-refused : goal.returns-clause-refused
returns-clause-refused g c =
    c.iter_cmp.ensures.refused (plain_list g.T.Shaped.written c.args.a.now) (plain_list g.T.Shaped.written c.args.b.now)
    (slice_lends g.T.Shaped.written c.iter.result c.args.a.now (cc)) (slice_lends g.T.Shaped.written c.iter-2.result c.args.b.now (cc))
