-- Goals of `algorithm_identifier::plain_parameters` that the checker doesn't prove by itself.
use Rattle.std.proofs.Common.{length, ◌≡◌, ◌∙◌, arith}
use Rattle.std.proofs.lemmas.Bool.Decides.{nat_tests}
use Rattle.std.proofs.lemmas.List.{nil_from_length}
use Rattle.x509_cert_parts.proofs.PlainFields.{no_parameters, null_parameters}
use Rattle.x509_cert_parts.proofs.algorithm_identifier.plain_parameters.Goals as goal

pub returns-then-is_empty : goal.returns-then-is_empty
returns-then-is_empty c =
    let none : length c.args.octets.now ≡ 0 = grind (arith, nat_tests, c.is_empty.ensures, c.if-is_empty.true) in
    (no_parameters.0, nil_from_length c.args.octets.now none ∙ no_parameters.1)

pub returns : goal.returns
returns c =
    let two : length c.args.octets.now ≡ 2 = omega (arith, c.in-len2.len_at_least, c.in-len2.len_below) in
    rw c.null.ensures (null_parameters c.args.octets.now two c.if-first-ne5.false c.if-second-ne0.false)
