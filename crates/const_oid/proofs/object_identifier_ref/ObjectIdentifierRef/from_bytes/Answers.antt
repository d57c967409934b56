-- Goals of `object_identifier_ref::ObjectIdentifierRef::from_bytes` that the checker doesn't prove
-- by itself.
use Rattle.std.proofs.Common.{◌≡◌, refl, List, ℕ, length, Ok, Err, IfErr, subst, ap, sym, ◌∙◌, arith}
use Rattle.std.proofs.lemmas.Result.{err_from_is_err_and}
use Rattle.std.specs.Result.{is_ok}
use Rattle.const_oid.specs.declared.error.Error.TheVariants as errors
use Rattle.const_oid.specs.Bound.{Bound}
use Rattle.const_oid.specs.OctetFaults.{IsOctetsFault}
use Rattle.const_oid.specs.IdentifierOctets.{read_identifier, identifier_octets, IsIdentifier}
use Rattle.const_oid.proofs.IdentifierLaws.{identifier_again, fault_found}
use Rattle.const_oid.proofs.ArcsLaws.{read_identifier-ok, read_identifier-err, spells_from_read}
use Rattle.const_oid.proofs.OverflowLaws.{octets_not_overflow}
use Rattle.const_oid.proofs.object_identifier_ref.ObjectIdentifierRef.from_bytes.Goals as goal

-- The encoding of an identifier decodes to it if the capacity is the number of bytes.
read_again : (w arcs : List ℕ) → w ≡ identifier_octets arcs → IsIdentifier Bound arcs → read_identifier Bound (length w) w ≡ Ok arcs
read_again w arcs octets id =
    ap (λ (v : List ℕ). read_identifier Bound (length v) v) octets ∙ identifier_again Bound (length (identifier_octets arcs)) arcs id (omega arith)

pub returns : goal.returns
returns c =
    let w = c.args.ber.now in
    let read = read_identifier-ok Bound w (sym c.in_ok-check.ensures) in
    let s = spells_from_read Bound (length w) w (λ i. omega (arith, c.type_inv.ber i)) read in
    record {
      read = sym read;
      octets = refl;
      ok = (s.identifier, s.spelled);
      spelled = λ arcs octets id. sym read ∙ read_again w arcs octets id;
      fault = tt;
      never_overflow = λ h. cc;
    }

pub returns-in_err-check-clause-spelled : goal.returns-in_err-check-clause-spelled
returns-in_err-check-clause-spelled c arcs octets id =
    let refused = read_identifier-err Bound c.args.ber.now _ (sym c.in_err-check.ensures) in
    let read = read_again c.args.ber.now arcs octets id in cc

pub returns-in_err-check-clause-fault : goal.returns-in_err-check-clause-fault
returns-in_err-check-clause-fault c =
    let w = c.args.ber.now in
    let p = err_from_is_err_and c.from_residual.result c.from_residual.ensures.1 in
    subst (λ r. IfErr r (λ e. IsOctetsFault Bound (length w) w e)) (sym (p.1 ∙ ap (λ e. Err e) p.2))
    (fault_found Bound (length w) w _ (λ i. omega (arith, c.type_inv.ber i)) (read_identifier-err Bound w _ (sym c.in_err-check.ensures)))

pub returns-in_err-check-clause-never_overflow : goal.returns-in_err-check-clause-never_overflow
returns-in_err-check-clause-never_overflow c h =
    let w = c.args.ber.now in
    let p = err_from_is_err_and c.from_residual.result c.from_residual.ensures.1 in
    let same : p.0 ≡ errors.Overflow = cc (p.1, h) in
    octets_not_overflow Bound (length w) w (read_identifier-err Bound w _ (sym c.in_err-check.ensures) ∙ ap (λ e. Err e) (sym p.2 ∙ same))

pub invariant_of-result : goal.invariant_of-result
invariant_of-result c =
    let w = c.args.ber.now in
    let read = read_identifier-ok Bound w (sym c.in_ok-check.ensures) in
    record {
      is_identifier = ap is_ok read;
      is_spelled = (spells_from_read Bound (length w) w (λ i. omega (arith, c.type_inv.ber i)) read).spelled;
    }
