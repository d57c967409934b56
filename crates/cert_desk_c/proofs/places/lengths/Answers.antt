-- Goals of `places::lengths` that the checker doesn't prove by itself.
use Rattle.cert_desk_c.proofs.PartPlaces.{header_is, not_refused}
use Rattle.cert_desk_c.proofs.places.lengths.Goals as goal

pub returns-in-Ok-clause-header : goal.returns-in-Ok-clause-header
returns-in-Ok-clause-header c = λ t n w tag fits e. header_is c.args.octets.now w t n tag fits e c.in-Ok.header c.in-Ok.count c.in-Ok.ensures.exact.0 c.in-Ok.ensures.exact.1

pub returns-in-Err-clause-header : goal.returns-in-Err-clause-header
returns-in-Err-clause-header c = λ t n w tag fits e. absurd (not_refused c.args.octets.now w t n tag fits e c.in-Err.field-0.kind c.in-Err.ensures.exact)
