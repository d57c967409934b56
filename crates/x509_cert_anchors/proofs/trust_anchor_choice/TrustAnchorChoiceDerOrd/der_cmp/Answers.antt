-- Goals of `trust_anchor_choice::TrustAnchorChoiceDerOrd::der_cmp` that the checker doesn't prove
-- by itself.
use Rattle.x509_cert_anchors.proofs.trust_anchor_choice.TrustAnchorChoiceDerOrd.der_cmp.Goals as goal

pub returns-clause-order : goal.returns-clause-order
returns-clause-order g c = c.cases_cmp.ensures.order _ _ c.cases.ensures c.cases-2.ensures

pub returns-clause-exact : goal.returns-clause-exact
returns-clause-exact g c = c.cases_cmp.ensures.exact _ _ c.cases.ensures c.cases-2.ensures

pub returns-clause-refused : goal.returns-clause-refused
returns-clause-refused g c = c.cases_cmp.ensures.refused _ _ c.cases.ensures c.cases-2.ensures
