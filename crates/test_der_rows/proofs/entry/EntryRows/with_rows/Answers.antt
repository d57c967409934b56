-- Goals of `entry::EntryRows::with_rows` that the checker doesn't prove by itself.
use Rattle.std.proofs.Common.{rules}
use Rattle.test_der_rows.proofs.entry.EntryRows.with_rows.Goals as goal

pub returns : goal.returns
returns g c = c.lend.ensures _ _ (search rules) (search rules)
