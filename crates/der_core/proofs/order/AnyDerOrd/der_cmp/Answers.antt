-- Goals of `order::AnyDerOrd::der_cmp` that the checker doesn't prove by itself.
use Rattle.der_core.proofs.order.AnyDerOrd.der_cmp.Goals as goal

pub returns-clause-order : goal.returns-clause-order
returns-clause-order g c = rw (c.tag.ensures, c.tag-2.ensures) at c.cmp_behind.ensures.order

pub returns-clause-exact : goal.returns-clause-exact
returns-clause-exact g c = rw (c.tag.ensures, c.tag-2.ensures) at c.cmp_behind.ensures.exact

pub returns-clause-refused : goal.returns-clause-refused
returns-clause-refused g c = rw (c.tag.ensures, c.tag-2.ensures) at c.cmp_behind.ensures.refused
