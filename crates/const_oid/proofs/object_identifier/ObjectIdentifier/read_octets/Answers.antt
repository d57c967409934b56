-- Goals of `object_identifier::ObjectIdentifier::read_octets` that the checker doesn't prove by
-- itself.
use Rattle.std.proofs.Common.{Ok, Err, ap, sym, subst, ◌∙◌, arith}
use Rattle.std.proofs.lemmas.Result.{err_from_is_err_and}
use Rattle.const_oid.specs.Bound.{Bound}
use Rattle.const_oid.specs.Arcs.{arcs_of, SpellsIdentifier}
use Rattle.const_oid.specs.LastArcs.{KnowsLast}
use Rattle.const_oid.proofs.ArcsLaws.{read_identifier-within, read_identifier-long, read_identifier-ok, read_identifier-err, spells_from_read}
use Rattle.const_oid.proofs.PackedLaws.{front-spelled}
use Rattle.const_oid.proofs.object_identifier.ObjectIdentifier.read_octets.Goals as goal

pub returns-then-ber_bytes : goal.returns-then-ber_bytes
returns-then-ber_bytes g c = record { read = sym (read_identifier-long Bound g.row.MAX_SIZE c.args.ber_bytes.now (omega arith)) }

pub returns-in_err-found : goal.returns-in_err-found
returns-in_err-found g c =
    let w = c.args.ber_bytes.now in
    let p = err_from_is_err_and c.from_residual.result c.from_residual.ensures.1 in
    record { read = p.1 ∙ ap (λ e. Err e) p.2 ∙ sym (read_identifier-within Bound g.row.MAX_SIZE w (omega arith) ∙ read_identifier-err Bound w _ c.in_err-found.ensures) }

pub from_slice-requires : goal.from_slice-requires
from_slice-requires g c =
    let w = c.args.ber_bytes.now in
    let read = read_identifier-within Bound g.row.MAX_SIZE w (omega arith) ∙ read_identifier-ok Bound w c.in_ok-found.ensures.0 in
    (omega arith, (omega arith, front-spelled Bound g.row.MAX_SIZE w (spells_from_read Bound g.row.MAX_SIZE w (λ i. omega (arith, c.type_inv.ber_bytes i)) read)))

pub invariant_of-result : goal.invariant_of-result
invariant_of-result g c =
    let w = c.args.ber_bytes.now in
    let read = read_identifier-within Bound g.row.MAX_SIZE w (omega arith) ∙ read_identifier-ok Bound w c.in_ok-found.ensures.0 in (
      subst (SpellsIdentifier Bound g.row.MAX_SIZE) (sym c.from_slice.ensures) (spells_from_read Bound g.row.MAX_SIZE w (λ i. omega (arith, c.type_inv.ber_bytes i)) read),
      subst (λ t. KnowsLast (arcs_of t) c.in_ok-found.found.arc_count c.in_ok-found.found.last_start) (sym c.from_slice.ensures) c.in_ok-found.ensures.1,
    )

pub returns : goal.returns
returns g c =
    let w = c.args.ber_bytes.now in
    let read = read_identifier-within Bound g.row.MAX_SIZE w (omega arith) ∙ read_identifier-ok Bound w c.in_ok-found.ensures.0 in
    record { read = ap (λ t. Ok (arcs_of t)) c.from_slice.ensures ∙ sym read }
