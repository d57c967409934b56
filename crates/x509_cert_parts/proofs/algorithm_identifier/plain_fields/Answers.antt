-- Goals of `algorithm_identifier::plain_fields` that the checker doesn't prove by itself.
use Rattle.der_core.specs.Grammar.{plain_option}
use Rattle.x509_cert_parts.proofs.PlainFields.{algorithm_body}
use Rattle.x509_cert_parts.proofs.algorithm_identifier.plain_fields.Goals as goal

pub returns : goal.returns
returns c =
    let ok = c.in-Ok.ensures.ok in
    let found = c.in-Some-plain_parameters in
    algorithm_body c.in-Ok.oid c.in-Some.identifier.now c.in-Some.behind.now c.args.octets.now (plain_option (λ v. v) found.parameters) ok.0 ok.1 ok.2 c.in-Some.ensures found.ensures.0 found.ensures.1
