-- Goals of `tbs_certificate::BehindRefLentRow::row_len` that the checker doesn't prove by itself.
use Rattle.der_core.specs.Oid.Bound.{Bound}
use Rattle.x509_cert_certificates.specs.Certificates.{from_validity}
use Rattle.x509_cert_certificates.proofs.RowOrders.{counted}
use Rattle.x509_cert_certificates.proofs.tbs_certificate.BehindRefLentRow.row_len.Goals as goal

pub returns : goal.returns
returns g c = counted (from_validity Bound) _ _ c.row_len.result c.behind.ensures c.row_len.ensures
