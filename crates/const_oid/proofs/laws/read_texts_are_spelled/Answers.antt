-- Goals of `laws::read_texts_are_spelled` that the checker doesn't prove by itself.
use Rattle.const_oid.proofs.TextFaultLaws.{text_sound}
use Rattle.const_oid.proofs.laws.read_texts_are_spelled.Goals as goal

pub returns : goal.returns
returns c = text_sound
