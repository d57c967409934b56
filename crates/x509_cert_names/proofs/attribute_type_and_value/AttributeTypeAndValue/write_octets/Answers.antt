-- Goals of `attribute_type_and_value::AttributeTypeAndValue::write_octets` that the checker
-- doesn't prove by itself.
use Rattle.std.proofs.Common.{◌<◌, ap, subst, ◌∙◌, arith}
use Rattle.der_core.specs.Tags.{leading_octet, number_of}
use Rattle.der_core.specs.Outputs.{AddsFront}
use Rattle.x509_cert_names.proofs.PlainSpelled.{pieces_octets, pieces_written, writes_alike}
use Rattle.x509_cert_names.proofs.attribute_type_and_value.AttributeTypeAndValue.write_octets.Goals as goal

pub returns-clause-exact : goal.returns-clause-exact
returns-clause-exact g c =
    let a = c.args.self.now in
    let old = g.W.Writer.out c.args.writer.now in
    let identifier = c.as_bytes-identifier in
    let value = c.value-value in
    let low : number_of a.value.tag < 31 = omega (arith, c.if-number_of-ge31.false, c.number_of.ensures ∙ ap number_of c.tag.ensures) in
    writes_alike g.W.Writer.takes_memory old (g.W.Writer.out c.write_four.new.writer) c.write_four.result _ _
    (pieces_written a.oid a.value.tag a.value.contents identifier.result.now value.result.now c.leading_octet_of.result identifier.ensures.octets value.ensures (c.leading_octet_of.ensures ∙ ap leading_octet c.tag-2.ensures)
    identifier.ensures.identifier identifier.ensures.fits low c.octets_in_range.ensures c.if-inside-ge128.false old)
    c.write_four.ensures.exact

pub returns-clause-front : goal.returns-clause-front
returns-clause-front g c =
    let a = c.args.self.now in
    let identifier = c.as_bytes-identifier in
    let value = c.value-value in
    let low : number_of a.value.tag < 31 = omega (arith, c.if-number_of-ge31.false, c.number_of.ensures ∙ ap number_of c.tag.ensures) in
    subst (λ w. AddsFront w (g.W.Writer.out c.args.writer.now) (g.W.Writer.out c.write_four.new.writer))
    (pieces_octets a.oid a.value.tag a.value.contents identifier.result.now value.result.now c.leading_octet_of.result identifier.ensures.octets value.ensures (c.leading_octet_of.ensures ∙ ap leading_octet c.tag-2.ensures)
    identifier.ensures.identifier identifier.ensures.fits low c.octets_in_range.ensures c.if-inside-ge128.false)
    c.write_four.ensures.front
