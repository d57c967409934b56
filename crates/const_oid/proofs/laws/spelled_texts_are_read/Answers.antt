-- Goals of `laws::spelled_texts_are_read` that the checker doesn't prove by itself.
use Rattle.const_oid.proofs.TextFaultLaws.{text_read}
use Rattle.const_oid.proofs.laws.spelled_texts_are_read.Goals as goal

pub returns : goal.returns
returns c = text_read
