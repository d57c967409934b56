-- Goals of `laws::gathered_arcs_are_identifiers` that the checker doesn't prove by itself.
use Rattle.const_oid.proofs.ArcFaultLaws.{gathered_are_identifier}
use Rattle.const_oid.proofs.laws.gathered_arcs_are_identifiers.Goals as goal

pub returns : goal.returns
returns c = gathered_are_identifier
