-- Goals of `any_ref::AnyRefDerOrd::der_cmp` that the checker doesn't prove by itself.
use Rattle.std.proofs.Common.{refl}
use Rattle.der_types_text.specs.Der.Shapes.{IsValid, octets_of, contents}
use Rattle.der_types_any.proofs.any_ref.AnyRefDerOrd.der_cmp.Goals as goal

pub returns-clause-order : goal.returns-clause-order
unfolding IsValid octets_of contents
returns-clause-order c = λ apart. (rw (c.of_content-content.ensures, c.of_content-other_content.ensures) at c.cmp_behind.ensures.order) refl

pub returns-clause-exact : goal.returns-clause-exact
unfolding octets_of contents
returns-clause-exact c = λ apart. (rw (c.of_content-content.ensures, c.of_content-other_content.ensures) at c.cmp_behind.ensures.exact) refl

pub returns-clause-refused : goal.returns-clause-refused
returns-clause-refused c = rw (c.of_content-content.ensures, c.of_content-other_content.ensures) at c.cmp_behind.ensures.refused
