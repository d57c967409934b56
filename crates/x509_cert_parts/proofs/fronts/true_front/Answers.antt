-- Goals of `fronts::true_front` that the checker doesn't prove by itself.
use Rattle.std.proofs.Common.{refl}
use Rattle.x509_cert_parts.proofs.PlainFields.{true_first}
use Rattle.x509_cert_parts.proofs.fronts.true_front.Goals as goal

pub returns : goal.returns
returns c = true_first c.args.octets.now _ c.in-len3-up.len_at_least c.if-first-ne1.false c.if-second-ne1.false c.if-third.false refl
