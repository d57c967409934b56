-- Goals of `packed::front_len` that the checker doesn't prove by itself.
use Rattle.std.proofs.Common.{◌∙◌, arith}
use Rattle.const_oid.proofs.PackedLaws.{front-step, front-found}
use Rattle.const_oid.proofs.packed.front_len.Goals as goal

pub loop-end-preserved : goal.loop-end-preserved
loop-end-preserved c =
    let held = c.loop-end.invariant in
    (omega (arith, held.0), front-step c.args.bytes.now c.loop-end.end (omega arith) held.0 (omega arith) ∙ held.1)

pub returns-else-bytes-end-ge128 : goal.returns-else-bytes-end-ge128
returns-else-bytes-end-ge128 c =
    let held = c.loop-end.invariant in
    front-found c.args.bytes.now _ c.loop-end.end held.0 (λ some. omega arith) held.1

pub returns-after-loop-end : goal.returns-after-loop-end
returns-after-loop-end c =
    let held = c.loop-end.invariant in
    front-found c.args.bytes.now _ c.loop-end.end held.0 (λ some. absurd (omega arith)) held.1
