-- Goals of `parse::without_tag` that the checker doesn't prove by itself.
use Rattle.std.proofs.Common.{sym}
use Rattle.der_core_octets.proofs.LongLengths.{other_fault}
use Rattle.der_core_octets.proofs.parse.without_tag.Goals as goal

pub returns-in_default : goal.returns-in_default
returns-in_default c = sym (other_fault c.args.fault c.in_default.not-Length)
