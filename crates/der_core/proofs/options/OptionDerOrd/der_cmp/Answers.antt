-- Goals of `options::OptionDerOrd::der_cmp` that the checker doesn't prove by itself.
use Rattle.std.proofs.Common.{ap}
use Rattle.der_core_coding.specs.CoreHead.Grammar.{plain_option}
use Rattle.der_core.proofs.ShapeOrders.{some_order, some_told}
use Rattle.der_core.proofs.options.OptionDerOrd.der_cmp.Goals as goal

pub returns-in-Some-Some-clause-order : goal.returns-in-Some-Some-clause-order
returns-in-Some-Some-clause-order g c =
    some_order g.T.Shaped.shape _ _ (g.T.Shaped.written c.in-Some-Some.value) (g.T.Shaped.written c.in-Some-Some.other) c.der_cmp.result
    (ap (plain_option g.T.Shaped.written) c.in-Some-Some.is-0) (ap (plain_option g.T.Shaped.written) c.in-Some-Some.is-1) c.der_cmp.ensures.order

pub returns-in-Some-Some-clause-exact : goal.returns-in-Some-Some-clause-exact
returns-in-Some-Some-clause-exact g c =
    some_told g.T.Shaped.shape _ _ (g.T.Shaped.written c.in-Some-Some.value) (g.T.Shaped.written c.in-Some-Some.other) c.der_cmp.result
    (ap (plain_option g.T.Shaped.written) c.in-Some-Some.is-0) (ap (plain_option g.T.Shaped.written) c.in-Some-Some.is-1) c.der_cmp.ensures.exact
