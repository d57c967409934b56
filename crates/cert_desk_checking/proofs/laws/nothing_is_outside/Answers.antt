-- Goals of `laws::nothing_is_outside` that the checker doesn't prove by itself.
use Rattle.cert_desk_checking.proofs.OneStream.{nothing_outside}
use Rattle.cert_desk_checking.proofs.laws.nothing_is_outside.Goals as goal

pub returns : goal.returns
returns c = nothing_outside
