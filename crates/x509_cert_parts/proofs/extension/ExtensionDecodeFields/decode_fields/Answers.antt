-- Goals of `extension::ExtensionDecodeFields::decode_fields` that the checker doesn't prove by
-- itself.
use Rattle.std.proofs.Common.{length, refl, ap, ◌∙◌, arith}
use Rattle.der_core.specs.Oid.Bound.{Bound}
use Rattle.x509_cert_parts.specs.Grammar.{extension_fields}
use Rattle.x509_cert_parts.specs.Views.{extension_plain}
use Rattle.x509_cert_parts.proofs.PlainFields.{all_read}
use Rattle.x509_cert_parts.proofs.extension.ExtensionDecodeFields.decode_fields.Goals as goal

pub returns-in-Some : goal.returns-in-Some
returns-in-Some g c =
    let state = g.R.Reader.state c.args.reader.now in
    let rest = c.remaining-octets.ensures.rest in
    let n = length c.remaining-octets.result.now in
    let is = c.in-Some.ensures in
    let read = all_read (extension_fields Bound) state n (extension_plain c.in-Some.extension) refl refl (c.reads_der.ensures.der c.if-reads_der.true) (omega (arith, ap length rest)) is.0 (is.1 ∙ rest) in
    rw c.skip.ensures (read, refl, c.reads_der.ensures.ready c.if-reads_der.true, (n, refl))
