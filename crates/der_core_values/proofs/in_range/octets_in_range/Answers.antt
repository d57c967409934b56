-- Goals of `in_range::octets_in_range` that the checker doesn't prove by itself.
use Rattle.std.proofs.Common.{arith}
use Rattle.der_core_octets.proofs.CoreHead.Results.{octets_are}
use Rattle.der_core_values.proofs.in_range.octets_in_range.Goals as goal

pub returns : goal.returns
returns c = octets_are c.args.octets.now (λ i. omega (arith, c.type_inv.octets i))
