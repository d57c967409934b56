-- The two rows have the fields of the two values.
use Rattle.std.proofs.Common.{rules}
use Rattle.pki_cms.proofs.encrypted_data.EncryptedDataRows.with_rows.Goals as goal

pub returns : goal.returns
returns g c = c.take_lent.ensures _ _ (search rules) (search rules)
