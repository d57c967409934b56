-- Goals of `flag_set::read_named` that the checker doesn't prove by itself.
use Rattle.std.proofs.Common.{ap, sym, ◌∙◌, arith, Err}
use Rattle.der_types_values.proofs.NamedSteps.{content_long}
use Rattle.der_types_values.proofs.flag_set.read_named.Goals as goal

pub returns-then-octets-gt8-clause-exact : goal.returns-then-octets-gt8-clause-exact
returns-then-octets-gt8-clause-exact c =
    content_long c.args.names c.args.tag c.args.octets.now (omega arith) c.requires (λ i. omega (arith, c.type_inv.octets i)) c.if-octets-gt8.true (sym c.if-not-ends_in_one.ensures)
    ∙ ap Err (sym c.from-then-octets-gt8.ensures)
