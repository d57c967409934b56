-- The loop invariants of `database::Database::by_name`.
use Rattle.std.proofs.Common.{◌≡◌, drop}
use Rattle.const_oid.specs.Names.{by_name}
use Rattle.const_oid.proofs.database.Database.by_name.Given as goal

abbrev pub invariant-loop-i : goal.invariant-loop-i
invariant-loop-i l = by_name l.name l.self.entries.now ≡ by_name l.name (drop l.i l.self.entries.now)
