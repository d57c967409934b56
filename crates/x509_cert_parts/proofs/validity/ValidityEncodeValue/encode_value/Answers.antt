-- Goals of `validity::ValidityEncodeValue::encode_value` that the checker doesn't prove by itself.
use Rattle.std.proofs.Common.{subst}
use Rattle.der_core.specs.Shapes.{BodyValue}
use Rattle.der_core.specs.Writing.{Writes, write_body}
use Rattle.x509_cert_parts.specs.Grammar.{validity_fields}
use Rattle.x509_cert_parts.proofs.validity.ValidityEncodeValue.encode_value.Goals as goal

pub returns-clause-exact : goal.returns-clause-exact
returns-clause-exact g c =
    let out = g.W.Writer.out in
    let P : BodyValue validity_fields → Type 0 = λ v. Writes (g.W.Writer.takes_memory) (out c.args.writer.now) (out c.encode_fields.new.writer) c.encode_fields.result (write_body validity_fields v) in
    subst P c.in_ok-spelled.ensures c.encode_fields.ensures.exact
