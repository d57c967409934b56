-- Goals of `ascending::count_ascending` that the checker doesn't prove by itself.
use Rattle.std.proofs.Common.{Err, refl, ap, sym, ◌∙◌, arith}
use Rattle.std.proofs.lemmas.Result.{err_from_is_err_and}
use Rattle.der_core.proofs.Lists.{stops_in_turn, falls_in_turn, over_in_turn}
use Rattle.der_types_sets.proofs.AscendingSteps.{counted_none, counted_on, counted_done}
use Rattle.der_types_sets.proofs.ascending.count_ascending.Goals as goal

pub loop-count-init : goal.loop-count-init
loop-count-init g c = counted_none g.T.Shaped.shape _ _ c.in_ok-reader.ensures.ok.1

pub returns-then-is_finished-clause-read : goal.returns-then-is_finished-clause-read
returns-then-is_finished-clause-read g c = counted_done refl c.loop-count.invariant (c.is_finished.ensures.0 c.if-is_finished.true) refl

pub returns-in_err-_value-clause-refused : goal.returns-in_err-_value-clause-refused
returns-in_err-_value-clause-refused g c =
    let p = err_from_is_err_and c.from_residual-in_err-_value.result c.from_residual-in_err-_value.ensures.1 in
    rw (p.1, p.2) (λ memory.
    stops_in_turn c.loop-count.invariant.turn refl c.loop-count-test.true (λ e. absurd (cc (c.is_finished.ensures.1 e, c.if-is_finished.false)))
    (c.in_err-_value.ensures.reads.0 (ap (λ r. r.failed) c.loop-count.invariant.turn.reached.same) memory))

pub returns-in_err-check_behind-clause-refused : goal.returns-in_err-check_behind-clause-refused
returns-in_err-check_behind-clause-refused g c =
    let p = err_from_is_err_and c.from_residual-in_err-check_behind.result c.from_residual-in_err-check_behind.ensures.1 in
    rw (p.1, p.2) (λ memory.
    falls_in_turn c.loop-count.invariant.turn refl c.loop-count-test.true (λ e. absurd (cc (c.is_finished.ensures.1 e, c.if-is_finished.false)))
    c.in_ok-_value.ensures.reads.0 c.in_ok-_value.ensures.octets c.in_err-check_behind.ensures)

pub loop-count-preserved : goal.loop-count-preserved
loop-count-preserved g c =
    counted_on refl c.loop-count.invariant c.loop-count-test.true (λ e. absurd (cc (c.is_finished.ensures.1 e, c.if-is_finished.false)))
    c.in_ok-_value.ensures.reads.0 c.in_ok-_value.ensures.reads.1 c.in_ok-_value.ensures.reads.3 c.in_ok-_value.ensures.octets c.in_ok-check_behind.ensures

pub returns-then-is_finished-2-clause-read : goal.returns-then-is_finished-2-clause-read
returns-then-is_finished-2-clause-read g c = counted_done refl c.loop-count.invariant (c.is_finished-2.ensures.0 c.if-is_finished-2.true) (omega arith)

pub returns-else-is_finished-2-clause-refused : goal.returns-else-is_finished-2-clause-refused
returns-else-is_finished-2-clause-refused g c =
    λ _. over_in_turn c.loop-count.invariant.turn refl (omega arith) (λ e. absurd (cc (c.is_finished-2.ensures.1 e, c.if-is_finished-2.false))) ∙ ap (λ k. Err k) (sym c.from.ensures)
