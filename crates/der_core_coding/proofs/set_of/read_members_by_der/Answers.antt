-- Goals of `set_of::read_rising_by_der` that the checker doesn't prove by itself.
use Rattle.std.proofs.Common.{◌≤◌, ◌<◌, [], length, sym, ap, ◌∙◌, arith, false, ◌≢◌}
use Rattle.std.proofs.lemmas.Result.{err_from_is_err_and}
use Rattle.der_core_coding.specs.Steps.{step_of}
use Rattle.der_core_values.specs.CoreHead.Reading.{State}
use Rattle.der_core_values.proofs.CoreOctets.GoingOn.{kept_then, broken_kept}
use Rattle.der_core_values.proofs.Lists.{reached_refused, none_in_turn, on_in_turn, stops_in_turn, falls_in_turn, done_in_turn, over_in_turn}
use Rattle.der_core_coding.proofs.set_of.read_members_by_der.Goals as goal
use Rattle.der_core_coding.proofs.set_of.read_members_by_der.Goals.{else-loop-test, then-loop-test+then-is_finished}

pub loop-init : goal.loop-init
loop-init g c = rw c.in-Ok.ensures.items (none_in_turn (step_of c.args.equal) g.T.Shaped.shape g.T.Shaped.plain (g.R.Reader.state c.args.reader.now))

pub returns-in_err-value : goal.returns-in_err-value
returns-in_err-value g c =
    let ready = sym c.is_failed.ensures ∙ c.if-is_failed.false in
    let lt : c.loop.counter < length (g.R.Reader.state c.args.reader.now).rest = omega (arith, c.remaining_len-len.ensures) in
    let p = err_from_is_err_and c.from_residual.result c.from_residual.ensures.1 in
    rw (p.1, p.2) (
    reached_refused c.loop.invariant.reached ready
    (λ memory. stops_in_turn c.loop.invariant c.requires lt (λ e. absurd (cc (c.is_finished.ensures.1 e, c.if-is_finished.false))) (c.in_err-value.ensures.reads.0 (ap (λ (s : State). s.failed) c.loop.invariant.reached.same ∙ ready) memory))
    c.in_err-value.ensures.reads.1 c.in_err-value.ensures.reads.3
    )

pub returns-in-Err-check_follows : goal.returns-in-Err-check_follows
returns-in-Err-check_follows g c =
    let lt : c.loop.counter < length (g.R.Reader.state c.args.reader.now).rest = omega (arith, c.remaining_len-len.ensures) in
    let reads = c.in_ok-value.ensures.reads in
    reached_refused c.loop.invariant.reached (sym c.is_failed.ensures ∙ c.if-is_failed.false)
    (λ memory. falls_in_turn c.loop.invariant c.requires lt (λ e. absurd (cc (c.is_finished.ensures.1 e, c.if-is_finished.false))) reads.0 c.in_ok-value.ensures.octets (c.in-Err-check_follows.ensures memory))
    (kept_then _ _ _ reads.1 reads.3 (broken_kept _ _ c.fail-in-Err-check_follows.ensures)) (ap (λ (s : State). s.failed) c.fail-in-Err-check_follows.ensures)

pub loop-preserved : goal.loop-preserved
loop-preserved g c =
    let lt : c.loop.counter < length (g.R.Reader.state c.args.reader.now).rest = omega (arith, c.remaining_len-len.ensures) in
    rw c.in-Ok-push.ensures.items (on_in_turn c.loop.invariant c.requires lt (λ e. absurd (cc (c.is_finished.ensures.1 e, c.if-is_finished.false)))
    c.in_ok-value.ensures.reads.0 c.in_ok-value.ensures.reads.1 c.in_ok-value.ensures.reads.3 c.in_ok-value.ensures.octets c.in-Ok-check_follows.ensures)

pub returns-then-is_finished-2 : goal.returns-then-is_finished-2
returns-then-is_finished-2 g c =
    (done_in_turn c.loop.invariant c.requires (c.is_finished-2.ensures.0 c.if-is_finished-2.true), c.loop.invariant.reached.same, sym c.is_failed.ensures ∙ c.if-is_failed.false, c.loop.invariant.reached.passed)

pub returns-else-is_finished-2 : goal.returns-else-is_finished-2
returns-else-is_finished-2 g c =
    let now = g.R.Reader.state c.loop.reader in
    let some : now.rest ≢ [] = λ e. absurd (cc (c.is_finished-2.ensures.1 e, c.if-is_finished-2.false)) in
    let past : length (g.R.Reader.state c.args.reader.now).rest ≤ c.loop.counter = elim c.loop-test.branch [
      | else-loop-test w ↦ omega (arith, c.remaining_len-len.ensures, w.loop-test.false)
      | then-loop-test+then-is_finished w ↦ absurd (some (w.is_finished.ensures.0 w.if-is_finished.true))
    ] in
    rw c.from-else-is_finished-2.ensures (
    reached_refused c.loop.invariant.reached (sym c.is_failed.ensures ∙ c.if-is_failed.false) (λ _. over_in_turn c.loop.invariant c.requires past some)
    (broken_kept _ _ c.fail-else-is_finished-2.ensures) (ap (λ (s : State). s.failed) c.fail-else-is_finished-2.ensures)
    )
