-- Goals of `display::write_long` that the checker doesn't prove by itself.
use Rattle.std.proofs.Common.{rules, arith}
use Rattle.std.proofs.Output.{has_written_of_eq}
use Rattle.const_oid.proofs.DottedLaws.{written_dot}
use Rattle.const_oid.proofs.display.write_long.Goals as goal

pub returns : goal.returns
returns g c = λ plain ok. has_written_of_eq _ _ _ _ _ (written_dot c.args.arc (omega arith)) (search rules)
