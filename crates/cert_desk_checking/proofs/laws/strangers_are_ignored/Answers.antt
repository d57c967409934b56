-- Goals of `laws::strangers_are_ignored` that the checker doesn't prove by itself.
use Rattle.cert_desk_checking.proofs.Strangers.{ignores_strangers}
use Rattle.cert_desk_checking.proofs.laws.strangers_are_ignored.Goals as goal

pub returns : goal.returns
returns c = ignores_strangers
