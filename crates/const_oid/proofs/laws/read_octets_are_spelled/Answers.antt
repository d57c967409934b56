-- Goals of `laws::read_octets_are_spelled` that the checker doesn't prove by itself.
use Rattle.const_oid.proofs.IdentifierLaws.{identifier_sound}
use Rattle.const_oid.proofs.laws.read_octets_are_spelled.Goals as goal

pub returns : goal.returns
returns c = identifier_sound
