-- Goals of `trust_anchor_choice::TrustAnchorChoiceFirstTag::first_tag` that the checker doesn't
-- prove by itself.
use Rattle.x509_cert_anchors.proofs.trust_anchor_choice.TrustAnchorChoiceFirstTag.first_tag.Goals as goal

pub returns : goal.returns
returns g c = c.cases_tag.ensures _ c.cases.ensures
