-- Goals of `object_identifier::ObjectIdentifier::from_bytes_sized` that the checker doesn't prove
-- by itself.
use Rattle.std.proofs.Common.{List, ℕ, length, ◌≤◌, ap, sym, subst, ◌∙◌, arith}
use Rattle.const_oid.specs.Bound.{Bound}
use Rattle.const_oid.specs.IdentifierOctets.{read_identifier}
use Rattle.const_oid.proofs.IdentifierLaws.{identifier_again}
use Rattle.const_oid.proofs.OverflowLaws.{octets_not_overflow}
use Rattle.const_oid.proofs.OctetFaultLaws.{answer_ok, answer_fault}
use Rattle.const_oid.proofs.object_identifier.ObjectIdentifier.from_bytes_sized.Goals as goal

pub returns-clause-ok : goal.returns-clause-ok
returns-clause-ok g c = answer_ok Bound g.row.MAX_SIZE c.args.ber_bytes.now c.read_octets.result (λ i. omega (arith, c.type_inv.ber_bytes i)) c.read_octets.ensures.read

pub returns-clause-fault : goal.returns-clause-fault
returns-clause-fault g c = answer_fault Bound g.row.MAX_SIZE c.args.ber_bytes.now c.read_octets.result (λ i. omega (arith, c.type_inv.ber_bytes i)) c.read_octets.ensures.read

pub returns-clause-spelled : goal.returns-clause-spelled
returns-clause-spelled g c arcs octets id fits =
    c.read_octets.ensures.read
    ∙ ap (read_identifier Bound g.row.MAX_SIZE) octets
    ∙ identifier_again Bound g.row.MAX_SIZE arcs id (subst (λ (w : List ℕ). length w ≤ g.row.MAX_SIZE) octets fits)

pub returns-clause-never_overflow : goal.returns-clause-never_overflow
returns-clause-never_overflow g c h = octets_not_overflow Bound g.row.MAX_SIZE c.args.ber_bytes.now (sym c.read_octets.ensures.read ∙ h)
