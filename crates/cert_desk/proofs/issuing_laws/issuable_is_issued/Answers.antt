-- Goals of `issuing_laws::issuable_is_issued` that the checker doesn't prove by itself.
use Rattle.cert_desk.proofs.OnlyMemory.{issuable_is_issued}
use Rattle.cert_desk.proofs.issuing_laws.issuable_is_issued.Goals as goal

pub returns : goal.returns
returns g c = issuable_is_issued g.S.Signer.public_key g.S.Signer.signs_by g.S.Signer.signs g.S.Signer.may_refuse
