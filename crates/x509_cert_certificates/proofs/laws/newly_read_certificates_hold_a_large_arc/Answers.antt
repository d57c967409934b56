-- Goals of `laws::newly_read_certificates_hold_a_large_arc` that the checker doesn't prove by
-- itself.
use Rattle.der_core.proofs.BoundLaws.{front_new, new_spelled, spelled_exactly, spelled_narrow, whole_new}
use Rattle.der_core.specs.Bounds.{identifiers_of}
use Rattle.x509_cert_certificates.specs.Bounds.{certificate_identifiers}
use Rattle.x509_cert_certificates.proofs.Respelled.{certificates}
use Rattle.x509_cert_certificates.proofs.laws.newly_read_certificates_hold_a_large_arc.Goals as goal

pub returns-clause-narrow : goal.returns-clause-narrow
unfolding certificate_identifiers identifiers_of
returns-clause-narrow c = λ small large limit. spelled_narrow _ _ (certificates limit) small large

pub returns-clause-new : goal.returns-clause-new
unfolding certificate_identifiers identifiers_of
returns-clause-new c = λ small large limit. new_spelled _ _ (certificates limit) small large

pub returns-clause-whole : goal.returns-clause-whole
unfolding certificate_identifiers identifiers_of
returns-clause-whole c = λ small large limit. whole_new _ _ (certificates limit) small large

pub returns-clause-front : goal.returns-clause-front
unfolding certificate_identifiers identifiers_of
returns-clause-front c = λ small large limit. front_new _ _ (certificates limit) small large

pub returns-clause-exact : goal.returns-clause-exact
unfolding certificate_identifiers identifiers_of
returns-clause-exact c = λ small large limit. spelled_exactly _ _ (certificates limit) small large
