-- Goals of `indefinite::mark_of` that the checker doesn't prove by itself.
use Rattle.std.proofs.Common.{arith}
use Rattle.der_core_octets.proofs.Levels.{mark-none}
use Rattle.der_core_octets.proofs.indefinite.mark_of.Goals as goal

pub returns-in_default : goal.returns-in_default
returns-in_default c = rw c.from.ensures (mark-none c.args.octets.now (omega arith))
