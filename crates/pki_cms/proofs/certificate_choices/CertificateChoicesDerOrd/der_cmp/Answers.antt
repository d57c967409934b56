-- The alternatives that are compared are those of the two values.
use Rattle.pki_cms.proofs.certificate_choices.CertificateChoicesDerOrd.der_cmp.Goals as goal

pub returns-clause-order : goal.returns-clause-order
returns-clause-order c = c.cases_cmp.ensures.order _ _ c.cases.ensures c.cases-2.ensures

pub returns-clause-exact : goal.returns-clause-exact
returns-clause-exact c = c.cases_cmp.ensures.exact _ _ c.cases.ensures c.cases-2.ensures

pub returns-clause-refused : goal.returns-clause-refused
returns-clause-refused c = c.cases_cmp.ensures.refused _ _ c.cases.ensures c.cases-2.ensures
