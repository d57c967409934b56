-- Goals of `issuing_laws::issued_is_trusted` that the checker doesn't prove by itself.
use Rattle.cert_desk.proofs.Trusting.{issued_is_trusted}
use Rattle.cert_desk.proofs.issuing_laws.issued_is_trusted.Goals as goal

pub returns : goal.returns
returns g c = issued_is_trusted g.S.Signer.public_key g.S.Signer.signs_by g.S.Signer.signs
