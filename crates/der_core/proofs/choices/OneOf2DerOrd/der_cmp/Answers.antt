-- Goals of `choices::OneOf2DerOrd::der_cmp` that the checker doesn't prove by itself.
use Rattle.std.proofs.Common.{Ok, ap, ◌∙◌}
use Rattle.der_core_coding.specs.CoreValues.Choices.{plain_of_two}
use Rattle.der_core.proofs.ShapeOrders.{both_first, both_second, first_told, second_told, mixed, mixed_turned}
use Rattle.der_core.proofs.choices.OneOf2DerOrd.der_cmp.Goals as goal

pub returns-in-First-First-clause-order : goal.returns-in-First-First-clause-order
returns-in-First-First-clause-order g c =
    both_first g.A.Shaped.shape g.B.Shaped.shape _ _ (g.A.Shaped.written c.in-First-First.value) (g.A.Shaped.written c.in-First-First.other) c.der_cmp.result
    (ap (plain_of_two g.A.Shaped.written g.B.Shaped.written) c.in-First-First.is-0) (ap (plain_of_two g.A.Shaped.written g.B.Shaped.written) c.in-First-First.is-1) c.der_cmp.ensures.order

pub returns-in-First-First-clause-exact : goal.returns-in-First-First-clause-exact
returns-in-First-First-clause-exact g c =
    first_told g.A.Shaped.shape g.B.Shaped.shape _ _ (g.A.Shaped.written c.in-First-First.value) (g.A.Shaped.written c.in-First-First.other) c.der_cmp.result
    (ap (plain_of_two g.A.Shaped.written g.B.Shaped.written) c.in-First-First.is-0) (ap (plain_of_two g.A.Shaped.written g.B.Shaped.written) c.in-First-First.is-1) c.der_cmp.ensures.exact

pub returns-in-Second-Second-clause-order : goal.returns-in-Second-Second-clause-order
returns-in-Second-Second-clause-order g c =
    both_second g.A.Shaped.shape g.B.Shaped.shape _ _ (g.B.Shaped.written c.in-Second-Second.value) (g.B.Shaped.written c.in-Second-Second.other) c.der_cmp-in-Second-Second.result
    (ap (plain_of_two g.A.Shaped.written g.B.Shaped.written) c.in-Second-Second.is-0) (ap (plain_of_two g.A.Shaped.written g.B.Shaped.written) c.in-Second-Second.is-1) c.der_cmp-in-Second-Second.ensures.order

pub returns-in-Second-Second-clause-exact : goal.returns-in-Second-Second-clause-exact
returns-in-Second-Second-clause-exact g c =
    second_told g.A.Shaped.shape g.B.Shaped.shape _ _ (g.B.Shaped.written c.in-Second-Second.value) (g.B.Shaped.written c.in-Second-Second.other) c.der_cmp-in-Second-Second.result
    (ap (plain_of_two g.A.Shaped.written g.B.Shaped.written) c.in-Second-Second.is-0) (ap (plain_of_two g.A.Shaped.written g.B.Shaped.written) c.in-Second-Second.is-1) c.der_cmp-in-Second-Second.ensures.exact

pub returns-in-First-Second-clause-exact : goal.returns-in-First-Second-clause-exact
returns-in-First-Second-clause-exact g c =
    mixed g.A.Shaped.shape g.B.Shaped.shape _ _ (g.A.Shaped.written c.in-First-Second.value) (g.B.Shaped.written c.in-First-Second.other) c.other_cmp.result
    (ap (plain_of_two g.A.Shaped.written g.B.Shaped.written) c.in-First-Second.is-0) (ap (plain_of_two g.A.Shaped.written g.B.Shaped.written) c.in-First-Second.is-1) c.other_cmp.ensures

pub returns-in-First-Second-clause-order : goal.returns-in-First-Second-clause-order
returns-in-First-Second-clause-order g c = λ apart p q. ap (λ o. Ok o) (returns-in-First-Second-clause-exact g c apart)

pub returns-in-Second-First-clause-exact : goal.returns-in-Second-First-clause-exact
returns-in-Second-First-clause-exact g c = λ apart.
    c.reverse.ensures
    ∙ mixed_turned g.A.Shaped.shape g.B.Shaped.shape _ _ (g.A.Shaped.written c.in-Second-First.other) (g.B.Shaped.written c.in-Second-First.value) c.other_cmp-in-Second-First.result
    (ap (plain_of_two g.A.Shaped.written g.B.Shaped.written) c.in-Second-First.is-0) (ap (plain_of_two g.A.Shaped.written g.B.Shaped.written) c.in-Second-First.is-1) c.other_cmp-in-Second-First.ensures apart

pub returns-in-Second-First-clause-order : goal.returns-in-Second-First-clause-order
returns-in-Second-First-clause-order g c = λ apart p q. ap (λ o. Ok o) (returns-in-Second-First-clause-exact g c apart)
