-- Goals of `set_of_ref_iter::first_member` that the checker doesn't prove by itself.
use Rattle.std.proofs.Common.{arith}
use Rattle.std.proofs.lemmas.Result.{err_from_is_err_and}
use Rattle.der_types_sets.proofs.SetSteps.{first_spelled, spelled_wants}
use Rattle.der_types_sets.proofs.set_of_ref_iter.first_member.Goals as goal

pub returns-in_err-value-clause-refused : goal.returns-in_err-value-clause-refused
returns-in_err-value-clause-refused g c =
    let p = err_from_is_err_and c.from_residual.result c.from_residual.ensures.1 in
    rw (p.1, p.2) (spelled_wants g.T.Shaped.shape c.args.count c.args.octets.now c.in_err-value.field-0.0.kind c.requires.some c.requires.spelled c.in_err-value.ensures.exact)

pub returns-clause-first : goal.returns-clause-first
returns-clause-first g c =
    (first_spelled g.T.Shaped.shape c.args.count c.args.octets.now (g.T.Shaped.plain c.in_ok-value.value) c.in_ok-value.behind.now g.met.T.Member.apart (λ i. omega (arith, c.type_inv.octets i)) c.requires.some c.requires.spelled c.in_ok-value.ensures.exact).all

pub returns-clause-left : goal.returns-clause-left
returns-clause-left g c =
    (first_spelled g.T.Shaped.shape c.args.count c.args.octets.now (g.T.Shaped.plain c.in_ok-value.value) c.in_ok-value.behind.now g.met.T.Member.apart (λ i. omega (arith, c.type_inv.octets i)) c.requires.some c.requires.spelled c.in_ok-value.ensures.exact).left
