-- Goals of `parse::lone_length_of` that the checker doesn't prove by itself.
use Rattle.std.proofs.Common.{Ok, Err, drop}
use Rattle.der_core_head.specs.declared.tag.Tag.TheVariants as tags
use Rattle.der_core_octets.proofs.LongLengths.{lone_is}
use Rattle.der_core_octets.proofs.parse.lone_length_of.Goals as goal

pub returns-in-Some : goal.returns-in-Some
returns-in-Some c =
    let front = c.in-Some.front in
    let w = c.args.octets.now in
    (lone_is w (Ok (front.0.value, drop front.1 w)) (c.in-Some.ensures.some tags.Null), c.in-Some.ensures.within)

pub returns-in-None : goal.returns-in-None
returns-in-None c = rw (c.from.ensures, c.without_tag.ensures) (lone_is c.args.octets.now (Err c.length_fault.result) c.length_fault.ensures)
