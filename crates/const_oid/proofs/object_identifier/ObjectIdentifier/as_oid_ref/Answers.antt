-- Goals of `object_identifier::ObjectIdentifier::as_oid_ref` that the checker doesn't prove by
-- itself.
use Rattle.std.proofs.Common.{ap, sym, ◌∙◌}
use Rattle.const_oid.specs.IdentifierOctets.{identifier_octets}
use Rattle.const_oid.specs.Bound.{Bound}
use Rattle.const_oid.specs.Arcs.{arcs_of}
use Rattle.const_oid.proofs.ArcsLaws.{is_ok-octets, arcs_of-spelled}
use Rattle.const_oid.proofs.object_identifier.ObjectIdentifier.as_oid_ref.Goals as goal

pub trusted-requires-clause-identifier : goal.trusted-requires-clause-identifier
trusted-requires-clause-identifier g c = is_ok-octets Bound c.as_bytes.result.now c.args.self.now c.as_bytes.ensures.identifier c.as_bytes.ensures.octets

pub trusted-requires-clause-spelled : goal.trusted-requires-clause-spelled
trusted-requires-clause-spelled g c =
    c.as_bytes.ensures.octets ∙ ap identifier_octets (sym (arcs_of-spelled Bound c.as_bytes.result.now c.args.self.now c.as_bytes.ensures.identifier c.as_bytes.ensures.octets))

pub returns-clause-arcs : goal.returns-clause-arcs
returns-clause-arcs g c = ap arcs_of c.trusted.ensures ∙ arcs_of-spelled Bound c.as_bytes.result.now c.args.self.now c.as_bytes.ensures.identifier c.as_bytes.ensures.octets
