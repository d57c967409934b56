-- Goals of `parse::short_header_of_tag` that the checker doesn't prove by itself.
use Rattle.std.proofs.Common.{arith}
use Rattle.der_core_octets.proofs.LongLengths.{plain, behind-le}
use Rattle.der_core_octets.proofs.GoingOn.{by_octet}
use Rattle.der_core_octets.proofs.parse.short_header_of_tag.Goals as goal

pub returns-clause-front : goal.returns-clause-front
returns-clause-front c = (
  plain c.args.octets.now c.args.tag c.in_ok-length.length.value c.in_ok-length.count (omega arith) (λ r. by_octet c.args.tag _ r (omega arith) (omega arith)) (c.in_ok-length.ensures.some c.args.tag),
  behind-le c.args.octets.now c.in_ok-length.count (omega arith) c.in_ok-length.ensures.within,
)
