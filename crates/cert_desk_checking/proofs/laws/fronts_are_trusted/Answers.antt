-- Goals of `laws::fronts_are_trusted` that the checker doesn't prove by itself.
use Rattle.cert_desk_checking.proofs.ChainParts.{trusted_front}
use Rattle.cert_desk_checking.proofs.laws.fronts_are_trusted.Goals as goal

pub returns : goal.returns
returns c = trusted_front
