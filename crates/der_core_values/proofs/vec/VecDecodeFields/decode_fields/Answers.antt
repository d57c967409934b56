-- Goals of `vec::VecDecodeFields::decode_fields` that the checker doesn't prove by itself.
use Rattle.std.proofs.Common.{◌≡◌, ◌≤◌, ◌<◌, ◌-◌, [], length, sym, ap, ◌∙◌, arith, ◌≢◌}
use Rattle.std.proofs.lemmas.Result.{err_from_is_err_and}
use Rattle.der_core_octets.specs.CoreHead.declared.error.ErrorKind.TheVariants as kinds
use Rattle.der_core_octets.specs.CoreHead.Grammar.{read_many}
use Rattle.der_core_octets.specs.CoreHead.Reading.{State, read_at}
use Rattle.der_core_octets.proofs.GoingOn.{broken_kept}
use Rattle.der_core_values.proofs.Lists.{reached_none, reads_alike, reached_on, reached_fault, reached_end, reached_refused, many_on, many_fault, many_end, many_over}
use Rattle.der_core_values.proofs.vec.VecDecodeFields.decode_fields.Goals as goal
use Rattle.der_core_values.proofs.vec.VecDecodeFields.decode_fields.Goals.{else-loop-test, then-loop-test+then-is_finished}

pub loop-init : goal.loop-init
loop-init g c =
    let old = g.R.Reader.state c.args.reader.now in
    let all : length old.rest - 0 ≡ length old.rest = omega arith in
    rw c.in-Ok.ensures.items (reached_none g.T.Shaped.shape g.T.Shaped.plain old _ _ (ap (λ n. read_many kinds.TrailingData (read_at old g.T.Shaped.shape) n old.rest) all))

pub returns-in_err-value : goal.returns-in_err-value
returns-in_err-value g c =
    let inv = c.loop.invariant in
    let ready = sym c.is_failed.ensures ∙ c.if-is_failed.false in
    let lt : c.loop.counter < length (g.R.Reader.state c.args.reader.now).rest = omega (arith, c.remaining_len-len.ensures) in
    let some : (g.R.Reader.state c.loop.reader).rest ≢ [] = λ e. absurd (cc (c.is_finished.ensures.1 e, c.if-is_finished.false)) in
    let p = err_from_is_err_and c.from_residual.result c.from_residual.ensures.1 in
    rw (p.1, p.2) (
    reached_refused inv ready (λ memory. reached_fault inv (many_fault kinds.TrailingData _ _ _ _ _ lt some (reads_alike inv ∙ c.in_err-value.ensures.0 (ap (λ (s : State). s.failed) inv.same ∙ ready) memory)))
    c.in_err-value.ensures.1 c.in_err-value.ensures.3
    )

pub loop-preserved : goal.loop-preserved
loop-preserved g c =
    let inv = c.loop.invariant in
    let lt : c.loop.counter < length (g.R.Reader.state c.args.reader.now).rest = omega (arith, c.remaining_len-len.ensures) in
    let some : (g.R.Reader.state c.loop.reader).rest ≢ [] = λ e. absurd (cc (c.is_finished.ensures.1 e, c.if-is_finished.false)) in
    rw c.in-Ok-push.ensures.items (reached_on inv c.in_ok-value.value (many_on kinds.TrailingData _ _ _ _ _ _ lt some (reads_alike inv ∙ c.in_ok-value.ensures.0)) c.in_ok-value.ensures.1 c.in_ok-value.ensures.3)

pub returns-then-is_finished-2 : goal.returns-then-is_finished-2
returns-then-is_finished-2 g c =
    let inv = c.loop.invariant in
    (reached_end inv (many_end kinds.TrailingData _ _ _ (c.is_finished-2.ensures.0 c.if-is_finished-2.true)), inv.same, sym c.is_failed.ensures ∙ c.if-is_failed.false, inv.passed)

pub returns-else-is_finished-2 : goal.returns-else-is_finished-2
returns-else-is_finished-2 g c =
    let inv = c.loop.invariant in
    let some : (g.R.Reader.state c.loop.reader).rest ≢ [] = λ e. absurd (cc (c.is_finished-2.ensures.1 e, c.if-is_finished-2.false)) in
    let past : length (g.R.Reader.state c.args.reader.now).rest ≤ c.loop.counter = elim c.loop-test.branch [
      | else-loop-test w ↦ omega (arith, c.remaining_len-len.ensures, w.loop-test.false)
      | then-loop-test+then-is_finished w ↦ absurd (some (w.is_finished.ensures.0 w.if-is_finished.true))
    ] in
    rw c.from-else-is_finished-2.ensures (
    reached_refused inv (sym c.is_failed.ensures ∙ c.if-is_failed.false) (λ _. reached_fault inv (many_over kinds.TrailingData _ _ _ _ past some))
    (broken_kept _ _ c.fail-else-is_finished-2.ensures) (ap (λ (s : State). s.failed) c.fail-else-is_finished-2.ensures)
    )
