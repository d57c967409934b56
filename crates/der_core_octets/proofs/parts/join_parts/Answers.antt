-- Goals of `parts::join_parts` that the checker doesn't prove by itself.
use Rattle.std.proofs.Common.{◌≤◌, ◌+◌, ◌-◌, ◌++◌, length, drop, ap, sym, ◌∙◌, arith}
use Rattle.std.proofs.lemmas.List.{length-append, length-drop, take_rest}
use Rattle.std.proofs.lemmas.Result.{err_from_is_err_and}
use Rattle.der_core_octets.specs.Parts.{joined}
use Rattle.der_core_octets.proofs.GoingOn.{goes_on, stops, is_done, is_over}
use Rattle.der_core_octets.proofs.parts.join_parts.Goals as goal
use Rattle.der_core_octets.proofs.parts.join_parts.Goals.{else-loop-test, then-loop-test+then-are_closed}

pub returns-in_err-part-clause-exact : goal.returns-in_err-part-clause-exact
returns-in_err-part-clause-exact c =
    let p = err_from_is_err_and c.from_residual.result c.from_residual.ensures.1 in
    let l = c.loop in
    rw (p.1, p.2) (λ memory. stops c.args.tag (length c.args.octets.now) l.counter l.bytes.items l.rest.now c.in_err-part.field-0.0.kind _ c.loop-test.true (sym c.are_closed.ensures ∙ c.if-are_closed.false) c.in_err-part.ensures.front l.invariant.total)

pub loop-preserved : goal.loop-preserved
loop-preserved c =
    let l = c.loop in
    let w = l.rest.now in
    let n = c.in_ok-part.count in
    let part = c.in_ok-part.part.now in
    let front = c.in_ok-part.ensures.front in
    let total = goes_on c.args.tag (length c.args.octets.now) l.counter l.bytes.items w part (drop n w) _ c.loop-test.true (sym c.are_closed.ensures ∙ c.if-are_closed.false) front.0 l.invariant.total in
    rw (c.in_ok-extend_from_slice.ensures.items) (record {
      total = ap (λ r. joined c.args.tag (length c.args.octets.now - (l.counter + 1)) (l.bytes.items ++ part) r) (take_rest w n) ∙ total;
      fewer = omega (arith, ap length (take_rest w n), length-drop n w, length-append l.bytes.items part, c.in_ok-part.ensures.within, front.1, l.invariant.fewer);
    })

pub returns-then-are_closed-2-clause-exact : goal.returns-then-are_closed-2-clause-exact
returns-then-are_closed-2-clause-exact c =
    let l = c.loop in
    is_done c.args.tag (length c.args.octets.now - l.counter) l.bytes.items l.rest.now _ (sym c.are_closed-2.ensures ∙ c.if-are_closed-2.true) l.invariant.total

pub returns-else-are_closed-2-clause-exact : goal.returns-else-are_closed-2-clause-exact
returns-else-are_closed-2-clause-exact c =
    let l = c.loop in
    let more = sym c.are_closed-2.ensures ∙ c.if-are_closed-2.false in
    let past : length c.args.octets.now ≤ l.counter = elim c.loop-test.branch [
      | else-loop-test w ↦ w.loop-test.false
      | then-loop-test+then-are_closed w ↦ absurd (cc (w.are_closed.ensures, w.if-are_closed.true, more))
    ] in
    rw c.from.ensures (λ memory. is_over c.args.tag (length c.args.octets.now) l.counter l.bytes.items l.rest.now _ past more l.invariant.total)
