-- Goals of `attribute_type_and_value::plain_parts` that the checker doesn't prove by itself.
use Rattle.std.proofs.Common.{refl, arith}
use Rattle.x509_cert_names.proofs.PlainSpelled.{parts_plain}
use Rattle.x509_cert_names.proofs.attribute_type_and_value.plain_parts.Goals as goal

pub returns : goal.returns
returns c =
    parts_plain c.args.octets.now c.split_at.result.0.now c.split_at.result.1.now _ c.in_ok-tag.tag (λ i. omega (arith, c.type_inv.octets i)) c.in-len4-up.len_at_least c.if-first-ne48.false c.if-second-ne6.false
    c.if-inner-ge128.false c.if-inner-rest.false c.if-rest-len.false c.split_at.ensures.front c.split_at.ensures.back c.in-len2-up.len_at_least refl c.if-value_len-value.false
    c.octets_in_range.ensures c.in_ok-tag.ensures.some
