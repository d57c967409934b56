-- A field with a default is decoded as `default_at` says.
use Rattle.std.proofs.Common.{rules}
use Rattle.der_core.specs.Grammar.{default_at}
use Rattle.pki_timestamps.proofs.Optional_fields.{twice}
use Rattle.pki_timestamps.proofs.tst_info.TstInfoDecodeFields.decode_fields.Goals as goal

pub returns : goal.returns
unfolding default_at
returns g c = search rules

pub returns-2 : goal.returns-2
unfolding default_at
returns-2 g c = search (rules, twice)
