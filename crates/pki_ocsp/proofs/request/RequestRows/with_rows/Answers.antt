-- The two rows have the fields of the two values.
use Rattle.std.proofs.Common.{rules}
use Rattle.pki_ocsp.proofs.request.RequestRows.with_rows.Goals as goal

pub returns : goal.returns
returns g c = c.lend.ensures _ _ (search rules) (search rules)
