-- Goals of `integers::AsIntegerWay::encode_by` that the checker doesn't prove by itself.
use Rattle.std.proofs.Common.{rules, arith}
use Rattle.std.proofs.lemmas.Grind.{common_steps}
use Rattle.der_core_octets.specs.CoreHead.Shapes.{contents}
use Rattle.der_core_octets.proofs.Added.{write_adds}
use Rattle.der_core_values.proofs.integers.AsIntegerWay.encode_by.Goals as goal

pub returns-clause-front : goal.returns-clause-front
unfolding contents
returns-clause-front g c =
    write_adds _ _ _ _ _ _ c.write.ensures.exact c.write.ensures.refused (first_of (grind (arith, common_steps), search rules))
