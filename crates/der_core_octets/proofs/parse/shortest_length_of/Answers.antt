-- Goals of `parse::shortest_length_of` that the checker doesn't prove by itself.
use Rattle.std.proofs.Common.{arith}
use Rattle.der_core_octets.proofs.LongLengths.{longer}
use Rattle.der_core_octets.proofs.parse.shortest_length_of.Goals as goal

pub returns-clause-some : goal.returns-clause-some
returns-clause-some c = λ t. rw c.from-2.ensures (longer t c.args.octets.now _ (omega arith) (omega arith) (c.in_ok-length.ensures.some t))
