-- Goals of `arc_octets::write_marked` that the checker doesn't prove by itself.
use Rattle.std.proofs.Common.{◌≡◌, ◌+◌, ◌-◌, ◌/◌, ◌%◌, length, take-append-drop, sym, arith}
use Rattle.std.proofs.Math.ListN.{length-set}
use Rattle.const_oid.specs.OctetFaults.{begun}
use Rattle.const_oid.proofs.EncodingLaws.{write_more}
use Rattle.const_oid.proofs.IdentifierLaws.{begun-split, length-begun}
use Rattle.const_oid.proofs.arc_octets.+write_marked.Goals as goal

pub returns-then-high-eq0 : goal.returns-then-high-eq0
unfolding begun
returns-then-high-eq0 t c =
    let all : c.args.end - 0 ≡ c.args.end = omega arith in
    rw (c.if-high-eq0.true, all) (sym (take-append-drop c.args.end c.args.bytes.now))

pub overflow_sub-last : goal.overflow_sub-last
overflow_sub-last t c = omega (arith, c.requires.room, length-begun c.args.high (omega arith))

pub bounds-bytes-last : goal.bounds-bytes-last
bounds-bytes-last t c = omega (arith, c.requires.room, c.requires.within, length-begun c.args.high (omega arith))

pub write_marked-requires : goal.write_marked-requires
write_marked-requires t c = (
  omega (arith, c.decreases),
  (omega (arith, c.requires.room, length-begun c.args.high (omega arith)), omega (arith, c.requires.within, length-set c.args.bytes.now (c.args.end - 1) (128 + c.args.high % 128))),
)

pub returns : goal.returns
returns t c =
    let high = c.args.high in
    write_more c.args.bytes.now c.write_marked.new.bytes (begun high) (begun (high / 128)) c.args.end (128 + high % 128) (length (begun (high / 128))) (length (begun high))
    (begun-split high (omega arith)) (length-begun high (omega arith)) c.requires.room c.requires.within c.write_marked.ensures
