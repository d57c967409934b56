-- Goals of `laws::one_stream` that the checker doesn't prove by itself.
use Rattle.cert_desk_checking.proofs.OneStream.{one_stream}
use Rattle.cert_desk_checking.proofs.laws.one_stream.Goals as goal

pub returns : goal.returns
returns c = one_stream
