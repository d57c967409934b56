-- Goals of `fronts::identifier_front` that the checker doesn't prove by itself.
use Rattle.x509_cert_parts.proofs.PlainFields.{identifier_first}
use Rattle.x509_cert_parts.proofs.fronts.identifier_front.Goals as goal

pub returns : goal.returns
returns c =
    identifier_first c.args.octets.now c.split_at.result.0.now c.split_at.result.1.now c.in-len2-up.len_at_least c.if-first-ne6.false c.if-rest-len.false c.split_at.ensures.front c.split_at.ensures.back
