-- Goals of `tbs_certificate::BehindRefLentRow::row_tag` that the checker doesn't prove by itself.
use Rattle.der_core.specs.Oid.Bound.{Bound}
use Rattle.x509_cert_certificates.specs.Certificates.{from_validity}
use Rattle.x509_cert_certificates.proofs.RowOrders.{started}
use Rattle.x509_cert_certificates.proofs.tbs_certificate.BehindRefLentRow.row_tag.Goals as goal

pub returns : goal.returns
returns g c = λ apart. started (from_validity Bound) _ _ c.row_tag.result c.behind.ensures (c.row_tag.ensures apart)
