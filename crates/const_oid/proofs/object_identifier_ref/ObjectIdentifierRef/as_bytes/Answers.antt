-- Goals of `object_identifier_ref::ObjectIdentifierRef::as_bytes` that the checker doesn't prove by
-- itself.
use Rattle.const_oid.specs.Bound.{Bound}
use Rattle.const_oid.proofs.ArcsLaws.{read_identifier-is_ok, is_ok_spells, bytes_of_spelled}
use Rattle.const_oid.proofs.object_identifier_ref.ObjectIdentifierRef.as_bytes.Goals as goal

pub returns-clause-read : goal.returns-clause-read
returns-clause-read c = read_identifier-is_ok Bound c.args.self.now.octets.now c.args.self.now.is_identifier

pub returns-clause-identifier : goal.returns-clause-identifier
returns-clause-identifier c =
    let oid = c.args.self.now in
    (is_ok_spells Bound oid.octets.now (bytes_of_spelled Bound oid.octets.now oid.is_identifier oid.is_spelled) oid.is_identifier).identifier
