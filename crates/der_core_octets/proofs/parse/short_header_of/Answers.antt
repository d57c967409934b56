-- Goals of `parse::short_header_of` that the checker doesn't prove by itself.
use Rattle.std.proofs.Common.{arith}
use Rattle.der_core_octets.proofs.LongLengths.{plain, behind-le}
use Rattle.der_core_octets.proofs.parse.short_header_of.Goals as goal

pub returns : goal.returns
returns c = (plain c.args.octets.now c.in_ok-tag.tag c.in_ok-length.length.value c.in_ok-length.count (omega arith) c.in_ok-tag.ensures.some (c.in_ok-length.ensures.some c.in_ok-tag.tag), behind-le c.args.octets.now c.in_ok-length.count (omega arith) c.in_ok-length.ensures.within)
