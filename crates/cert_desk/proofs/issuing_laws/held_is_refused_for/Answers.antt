-- Goals of `issuing_laws::held_is_refused_for` that the checker doesn't prove by itself.
use Rattle.cert_desk.proofs.Trusting.{held_is_refused_for}
use Rattle.cert_desk.proofs.issuing_laws.held_is_refused_for.Goals as goal

pub returns : goal.returns
returns c = held_is_refused_for
