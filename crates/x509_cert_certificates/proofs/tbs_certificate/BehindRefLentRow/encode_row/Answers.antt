-- Goals of `tbs_certificate::BehindRefLentRow::encode_row` that the checker doesn't prove by itself.
use Rattle.std.proofs.Common.{subst}
use Rattle.der_core.specs.Oid.Bound.{Bound}
use Rattle.der_core.specs.Shapes.{BodyValue, body_octets}
use Rattle.der_core.specs.Outputs.{AddsFront}
use Rattle.x509_cert_certificates.specs.Certificates.{from_validity}
use Rattle.x509_cert_names.proofs.Rows.{written}
use Rattle.x509_cert_certificates.proofs.tbs_certificate.BehindRefLentRow.encode_row.Goals as goal

pub returns-clause-exact : goal.returns-clause-exact
returns-clause-exact g c =
    written (from_validity Bound) _ _ g.W.Writer.takes_memory (g.W.Writer.out c.args.writer.now) (g.W.Writer.out c.encode_row.new.writer) c.encode_row.result c.behind.ensures c.encode_row.ensures.exact

pub returns-clause-front : goal.returns-clause-front
returns-clause-front g c =
    subst (λ (v : BodyValue (from_validity Bound)). AddsFront (body_octets (from_validity Bound) v) (g.W.Writer.out c.args.writer.now) (g.W.Writer.out c.encode_row.new.writer)) c.behind.ensures c.encode_row.ensures.front
