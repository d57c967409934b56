-- Goals of `tbs_certificate::BehindRefLentRow::row_cmp` that the checker doesn't prove by itself.
use Rattle.der_core.specs.Oid.Bound.{Bound}
use Rattle.x509_cert_certificates.specs.Certificates.{from_validity}
use Rattle.x509_cert_certificates.proofs.RowOrders.{compared, told, overflowing}
use Rattle.x509_cert_certificates.proofs.tbs_certificate.BehindRefLentRow.row_cmp.Goals as goal

pub returns-clause-order : goal.returns-clause-order
returns-clause-order g c =
    λ apart. compared (from_validity Bound) _ _ _ _ c.row_cmp.result c.behind.ensures c.behind-2.ensures (c.row_cmp.ensures.order apart)

pub returns-clause-exact : goal.returns-clause-exact
returns-clause-exact g c =
    λ apart. told (from_validity Bound) _ _ _ _ c.row_cmp.result c.behind.ensures c.behind-2.ensures (c.row_cmp.ensures.exact apart)

pub returns-clause-refused : goal.returns-clause-refused
returns-clause-refused g c = overflowing (from_validity Bound) _ _ _ _ c.row_cmp.result c.behind.ensures c.behind-2.ensures c.row_cmp.ensures.refused
