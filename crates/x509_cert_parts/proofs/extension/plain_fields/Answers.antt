-- Goals of `extension::plain_fields` that the checker doesn't prove by itself.
use Rattle.std.proofs.Common.{◌-◌, length, take, drop, refl}
use Rattle.x509_cert_parts.proofs.PlainFields.{extension_body}
use Rattle.x509_cert_parts.proofs.extension.plain_fields.Goals as goal

pub returns : goal.returns
returns c =
    let ok = c.in-Ok.ensures.ok in
    let last = c.true_front-critical.result.1.now in
    let value = take (length last - 2) (drop 2 last) in
    rw (c.in-Ok-new.ensures.ok.1, c.in-Ok-from_slice.ensures.items)
    (extension_body c.in-Ok.extn_id c.in-Some.identifier.now c.in-Some.behind.now last value c.args.octets.now c.true_front-critical.result.0 ok.0 ok.1 ok.2 c.in-Some.ensures c.true_front-critical.ensures c.in-len2-up.len_at_least c.if-first-ne4.false c.if-len-ge128.false
    c.if-len-value.false refl c.octets_in_range.ensures)
