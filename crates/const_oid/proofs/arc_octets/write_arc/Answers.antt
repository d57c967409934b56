-- Goals of `arc_octets::write_arc` that the checker doesn't prove by itself.
use Rattle.std.proofs.Common.{◌/◌, ◌%◌, length, arith}
use Rattle.const_oid.specs.IdentifierOctets.{arc_octets}
use Rattle.const_oid.specs.OctetFaults.{begun}
use Rattle.const_oid.proofs.EncodingLaws.{write_more}
use Rattle.const_oid.proofs.IdentifierLaws.{arc_octets-split, length-arc}
use Rattle.const_oid.proofs.arc_octets.write_arc.Goals as goal

pub overflow_sub-last : goal.overflow_sub-last
overflow_sub-last c = omega (arith, c.requires.room, length-arc c.args.arc)

pub bounds-bytes-last : goal.bounds-bytes-last
bounds-bytes-last c = omega (arith, c.requires.room, c.requires.within, length-arc c.args.arc)

pub write_marked-requires-clause-room : goal.write_marked-requires-clause-room
write_marked-requires-clause-room c = omega (arith, c.requires.room, length-arc c.args.arc)

pub returns : goal.returns
returns c =
    let arc = c.args.arc in
    write_more c.args.bytes.now c.write_marked.new.bytes (arc_octets arc) (begun (arc / 128)) c.args.end (arc % 128) (length (begun (arc / 128))) (length (arc_octets arc))
    (arc_octets-split arc) (length-arc arc) c.requires.room c.requires.within c.write_marked.ensures
