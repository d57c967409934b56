-- Goals of `trust_anchor_info::TrustAnchorInfoRows::with_rows` that the checker doesn't prove by
-- itself.
use Rattle.std.proofs.Common.{rules}
use Rattle.x509_cert_anchors.proofs.trust_anchor_info.TrustAnchorInfoRows.with_rows.Goals as goal

pub returns : goal.returns
returns g c = c.lend.ensures _ _ (search rules) (search rules)
