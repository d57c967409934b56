-- Goals of `arrays::ArrayDecodeFields::decode_fields` that the checker doesn't prove by itself.
use Rattle.std.proofs.Common.{◌≡◌, ◌-◌, rules, sym, ap, ◌∙◌, arith}
use Rattle.std.proofs.lemmas.Result.{err_from_is_err_and}
use Rattle.der_core_octets.specs.CoreHead.Grammar.{read_exactly}
use Rattle.der_core_octets.specs.CoreHead.Reading.{State, read_at}
use Rattle.der_core_values.proofs.Lists.{reached_none, reads_alike, reached_on, reached_fault, reached_end, reached_refused, exactly_on, exactly_fault, exactly_end}
use Rattle.der_core_values.proofs.arrays.ArrayDecodeFields.decode_fields.Goals as goal

pub loop-init : goal.loop-init
loop-init g c =
    let old = g.R.Reader.state c.args.reader.now in
    let all : g.row.N - 0 ≡ g.row.N = omega arith in
    record { count = search rules; reached = rw c.new-values.ensures.items (reached_none g.T.Shaped.shape g.T.Shaped.plain old _ _ (ap (λ n. read_exactly (read_at old g.T.Shaped.shape) n old.rest) all)) }

pub returns-in_err-value : goal.returns-in_err-value
returns-in_err-value g c =
    let inv = c.loop.invariant.reached in
    let ready = sym c.is_failed.ensures ∙ c.if-is_failed.false in
    let p = err_from_is_err_and c.from_residual.result c.from_residual.ensures.1 in
    rw (p.1, p.2) (
    reached_refused inv ready (λ memory. reached_fault inv (exactly_fault _ _ _ _ _ c.loop-test.true (reads_alike inv ∙ c.in_err-value.ensures.0 (ap (λ (s : State). s.failed) inv.same ∙ ready) memory)))
    c.in_err-value.ensures.1 c.in_err-value.ensures.3
    )

pub loop-preserved : goal.loop-preserved
loop-preserved g c =
    let inv = c.loop.invariant.reached in
    rw c.in-Ok.ensures.items (record {
      count = omega (arith, c.loop.invariant.count, c.in-Ok.ensures.len);
      reached = reached_on inv c.in_ok-value.value (exactly_on _ _ _ _ _ _ c.loop-test.true (reads_alike inv ∙ c.in_ok-value.ensures.0)) c.in_ok-value.ensures.1 c.in_ok-value.ensures.3;
    })

pub returns-in-Ok-try_from : goal.returns-in-Ok-try_from
returns-in-Ok-try_from g c =
    let inv = c.loop.invariant.reached in
    let made = c.in-Ok-try_from.ensures in
    rw made.0 (reached_end inv (exactly_end _ _ _ _ c.loop-test.false), inv.same, sym c.is_failed.ensures ∙ c.if-is_failed.false, inv.passed)
