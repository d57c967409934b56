-- Goals of `parse::length_of` that the checker doesn't prove by itself.
use Rattle.der_core_octets.proofs.parse.length_of.Goals as goal

pub returns-in-Some : goal.returns-in-Some
returns-in-Some c = (c.in-Some.ensures.some c.args.tag, c.in-Some.ensures.within)
