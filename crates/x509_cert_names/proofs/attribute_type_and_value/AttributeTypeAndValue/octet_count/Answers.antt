-- Goals of `attribute_type_and_value::AttributeTypeAndValue::octet_count` that the checker doesn't
-- prove by itself.
use Rattle.std.proofs.Common.{ℕ, ◌+◌, ◌<◌, Ok, length, ap, subst, ◌∙◌, arith}
use Rattle.der_core.specs.Octets.{IsOctets}
use Rattle.der_core.specs.Tags.{number_of}
use Rattle.x509_cert_names.proofs.PlainSpelled.{plain_size}
use Rattle.x509_cert_names.proofs.attribute_type_and_value.AttributeTypeAndValue.octet_count.Goals as goal

pub returns : goal.returns
returns c =
    let a = c.args.self.now in
    let few = ap length c.as_bytes.ensures.octets in
    let many = ap length c.value-value.ensures in
    let low : number_of a.value.tag < 31 = omega (arith, c.if-number_of-ge31.false, c.number_of.ensures ∙ ap number_of c.tag.ensures) in
    let sum : length c.as_bytes.result.now + length c.value-value.result.now + 4 < 128 = c.if-inside-ge128.false in
    plain_size a.oid a.value.tag a.value.contents c.as_bytes.ensures.identifier c.as_bytes.ensures.fits low (subst IsOctets c.value-value.ensures c.octets_in_range.ensures) (omega (arith, sum, few, many))
    ∙ ap (λ (n : ℕ). Ok n) (omega (arith, c.new.ensures, few, many))
