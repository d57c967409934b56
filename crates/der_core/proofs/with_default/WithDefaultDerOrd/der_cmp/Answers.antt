-- Goals of `with_default::WithDefaultDerOrd::der_cmp` that the checker doesn't prove by itself.
use Rattle.std.proofs.Common.{Ok, ap}
use Rattle.der_core.proofs.ShapeOrders.{both_default, first_default, second_default, neither_default, neither_told_default, default_long}
use Rattle.der_core.proofs.with_default.WithDefaultDerOrd.der_cmp.Goals as goal

pub returns-in-true-true-clause-exact : goal.returns-in-true-true-clause-exact
returns-in-true-true-clause-exact g c = λ apart. both_default g.T.Shaped.shape g.T.DefaultValue.default_octets _ _ c.in-true-true.ensures.value c.in-true-true.ensures'.value

pub returns-in-true-true-clause-order : goal.returns-in-true-true-clause-order
returns-in-true-true-clause-order g c = λ apart p q. ap (λ o. Ok o) (returns-in-true-true-clause-exact g c apart)

pub returns-in-true-false-clause-exact : goal.returns-in-true-false-clause-exact
returns-in-true-false-clause-exact g c = first_default g.T.Shaped.shape g.T.DefaultValue.default_octets _ _ c.in-true-false.ensures.value c.in-true-false.ensures'.value

pub returns-in-true-false-clause-order : goal.returns-in-true-false-clause-order
returns-in-true-false-clause-order g c = λ apart p q. ap (λ o. Ok o) (returns-in-true-false-clause-exact g c apart)

pub returns-in-false-true-clause-exact : goal.returns-in-false-true-clause-exact
returns-in-false-true-clause-exact g c = second_default g.T.Shaped.shape g.T.DefaultValue.default_octets _ _ c.in-false-true.ensures.value c.in-false-true.ensures'.value

pub returns-in-false-true-clause-order : goal.returns-in-false-true-clause-order
returns-in-false-true-clause-order g c = λ apart p q. ap (λ o. Ok o) (returns-in-false-true-clause-exact g c apart)

pub returns-in-false-false-clause-order : goal.returns-in-false-false-clause-order
returns-in-false-false-clause-order g c =
    let inner = rw (g.met.T.AsRead.as_read c.args.self.now.value, g.met.T.AsRead.as_read c.args.other.now.value) at c.der_cmp.ensures.order in
    neither_default g.T.Shaped.shape g.T.DefaultValue.default_octets _ _ c.der_cmp.result c.in-false-false.ensures.value c.in-false-false.ensures'.value inner

pub returns-in-false-false-clause-exact : goal.returns-in-false-false-clause-exact
returns-in-false-false-clause-exact g c =
    let inner = rw (g.met.T.AsRead.as_read c.args.self.now.value, g.met.T.AsRead.as_read c.args.other.now.value) at c.der_cmp.ensures.exact in
    neither_told_default g.T.Shaped.shape g.T.DefaultValue.default_octets _ _ c.der_cmp.result c.in-false-false.ensures.value c.in-false-false.ensures'.value inner

pub returns-in-false-false-clause-refused : goal.returns-in-false-false-clause-refused
returns-in-false-false-clause-refused g c =
    let inner = rw (g.met.T.AsRead.as_read c.args.self.now.value, g.met.T.AsRead.as_read c.args.other.now.value) at c.der_cmp.ensures.refused in
    default_long g.T.Shaped.shape g.T.DefaultValue.default_octets _ _ c.der_cmp.result c.in-false-false.ensures.value c.in-false-false.ensures'.value inner
