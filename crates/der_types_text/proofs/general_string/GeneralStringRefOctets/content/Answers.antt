-- Goals of `general_string::GeneralStringRefOctets::content` that the checker doesn't prove by
-- itself.
use Rattle.std.proofs.Common.{subst}
use Rattle.der_core.specs.Octets.{IsOctets}
use Rattle.der_types_text.proofs.BmpTexts.{all_within}
use Rattle.der_types_text.proofs.general_string.GeneralStringRefOctets.content.Goals as goal

pub returns-clause-in_range : goal.returns-clause-in_range
returns-clause-in_range c = record { within = all_within c.args.self.now.bytes.now; octets = subst IsOctets c.as_bytes.ensures c.octets_in_range.ensures }
