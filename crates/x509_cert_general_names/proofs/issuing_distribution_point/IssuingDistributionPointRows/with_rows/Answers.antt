-- Goals of `issuing_distribution_point::IssuingDistributionPointRows::with_rows` that the checker
-- doesn't prove by itself.
use Rattle.std.proofs.Common.{rules}
use Rattle.x509_cert_general_names.proofs.issuing_distribution_point.IssuingDistributionPointRows.with_rows.Goals as goal

pub returns : goal.returns
returns g c = c.lend.ensures _ _ (search rules) (search rules)
