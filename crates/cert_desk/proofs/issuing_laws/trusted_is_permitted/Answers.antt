-- Goals of `issuing_laws::trusted_is_permitted` that the checker doesn't prove by itself.
use Rattle.cert_desk.proofs.Trusting.{trusted_is_permitted}
use Rattle.cert_desk.proofs.issuing_laws.trusted_is_permitted.Goals as goal

pub returns : goal.returns
returns c = trusted_is_permitted
