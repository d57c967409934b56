-- Goals of `arc_octets::octet_count` that the checker doesn't prove by itself.
use Rattle.std.proofs.Common.{◌≡◌, ◌%◌, ◌^◌, length, ap, arith}
use Rattle.const_oid.specs.OctetFaults.{begun}
use Rattle.const_oid.proofs.BoundLaws.{arc_fits}
use Rattle.const_oid.proofs.EncodingLaws.{length-arc_octets}
use Rattle.const_oid.proofs.IdentifierLaws.{length-arc, length-begun}
use Rattle.const_oid.proofs.arc_octets.octet_count.Goals as goal

pub loop-high-init : goal.loop-high-init
loop-high-init c = (omega (arith, length-arc c.args.arc), omega arith)

pub overflow_add-count : goal.overflow_add-count
overflow_add-count c = omega (arith, c.loop-high.invariant.0, length-arc_octets c.args.arc, arc_fits c.args.arc (omega arith))

pub loop-high-preserved : goal.loop-high-preserved
loop-high-preserved c = (omega (arith, c.loop-high.invariant.0, length-begun c.loop-high.high (omega arith)), omega arith)

pub loop-word-init : goal.loop-word-init
loop-word-init c = (omega (arith, c.loop-high.invariant.0, ap (λ n. length (begun n)) (let e : c.loop-high.high % 2 ^ 64 ≡ c.loop-high.high = omega arith in e)), omega arith)

pub overflow_add-count-in-loop-word : goal.overflow_add-count-in-loop-word
overflow_add-count-in-loop-word c = omega (arith, c.loop-word.invariant.0, length-arc_octets c.args.arc, arc_fits c.args.arc (omega arith))

pub loop-word-preserved : goal.loop-word-preserved
loop-word-preserved c = (omega (arith, c.loop-word.invariant.0, length-begun c.loop-word.word (omega arith)), omega arith)

pub returns-clause-value : goal.returns-clause-value
unfolding begun
returns-clause-value c =
    let none : c.loop-word.word ≡ 0 = omega arith in
    omega (arith, c.loop-word.invariant.0, ap (λ n. length (begun n)) none)
