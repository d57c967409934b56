-- Goals of `sequence_of::SequenceOfDecodeFields::decode_fields` that the checker doesn't prove by
-- itself.
use Rattle.std.proofs.Common.{◌≡◌, ◌≤◌, ◌-◌, [], ◌∷◌, refl, sym, ap, ◌∙◌, arith, ◌≢◌, length-append}
use Rattle.std.proofs.lemmas.Result.{err_from_is_err_and}
use Rattle.der_core.specs.ErrorTypes.ErrorKind.TheVariants as kinds
use Rattle.der_core.specs.Grammar.{read_many}
use Rattle.der_core.specs.Reading.{State, read_at}
use Rattle.der_core.proofs.GoingOn.{broken_kept}
use Rattle.der_core.proofs.Lists.{reached_none, reads_alike, reached_on, reached_fault, reached_end, reached_refused, many_on, many_fault, many_end, many_over}
use Rattle.der_types_sets.proofs.sequence_of.SequenceOfDecodeFields.decode_fields.Goals as goal
use Rattle.der_types_sets.proofs.sequence_of.SequenceOfDecodeFields.decode_fields.Goals.{else-loop-test, then-loop-test+then-is_finished}

pub loop-init : goal.loop-init
loop-init g c =
    let old = g.R.Reader.state c.args.reader.now in
    let all : g.row.N - 0 ≡ g.row.N = omega arith in
    rw c.new-members.ensures (record { count = refl; reached = reached_none g.T.Shaped.shape g.T.Shaped.plain old _ _ (ap (λ n. read_many kinds.Overlength (read_at old g.T.Shaped.shape) n old.rest) all) })

pub returns-in_err-member : goal.returns-in_err-member
returns-in_err-member g c =
    let inv = c.loop.invariant.reached in
    let ready = sym c.is_failed.ensures ∙ c.if-is_failed.false in
    let some : (g.R.Reader.state c.loop.reader).rest ≢ [] = λ e. absurd (cc (c.is_finished.ensures.1 e, c.if-is_finished.false)) in
    let p = err_from_is_err_and c.from_residual.result c.from_residual.ensures.1 in
    rw (p.1, p.2) (
    reached_refused inv ready (λ memory. reached_fault inv (many_fault kinds.Overlength _ _ _ _ _ c.loop-test.true some (reads_alike inv ∙ c.in_err-member.ensures.0 (ap (λ (s : State). s.failed) inv.same ∙ ready) memory)))
    c.in_err-member.ensures.1 c.in_err-member.ensures.3
    )

pub loop-preserved : goal.loop-preserved
loop-preserved g c =
    let inv = c.loop.invariant.reached in
    let some : (g.R.Reader.state c.loop.reader).rest ≢ [] = λ e. absurd (cc (c.is_finished.ensures.1 e, c.if-is_finished.false)) in
    rw c.push.ensures.items (record {
      count = omega (arith, c.loop.invariant.count, length-append c.loop.members.items (c.in_ok-member.member ∷ []));
      reached = reached_on inv c.in_ok-member.member (many_on kinds.Overlength _ _ _ _ _ _ c.loop-test.true some (reads_alike inv ∙ c.in_ok-member.ensures.0)) c.in_ok-member.ensures.1 c.in_ok-member.ensures.3;
    })

pub returns-then-is_finished-2 : goal.returns-then-is_finished-2
returns-then-is_finished-2 g c =
    let inv = c.loop.invariant.reached in
    (reached_end inv (many_end kinds.Overlength _ _ _ (c.is_finished-2.ensures.0 c.if-is_finished-2.true)), inv.same, sym c.is_failed.ensures ∙ c.if-is_failed.false, inv.passed)

pub returns-else-is_finished-2 : goal.returns-else-is_finished-2
returns-else-is_finished-2 g c =
    let inv = c.loop.invariant.reached in
    let some : (g.R.Reader.state c.loop.reader).rest ≢ [] = λ e. absurd (cc (c.is_finished-2.ensures.1 e, c.if-is_finished-2.false)) in
    let past : g.row.N ≤ c.loop.counter = elim c.loop-test.branch [
      | else-loop-test w ↦ w.loop-test.false
      | then-loop-test+then-is_finished w ↦ absurd (some (w.is_finished.ensures.0 w.if-is_finished.true))
    ] in
    rw c.at.ensures (
    reached_refused inv (sym c.is_failed.ensures ∙ c.if-is_failed.false) (λ _. reached_fault inv (many_over kinds.Overlength _ _ _ _ past some))
    (broken_kept _ _ c.fail.ensures) (ap (λ (s : State). s.failed) c.fail.ensures)
    )
