-- The loop invariants of `arc_octets::write_marked`.
use Rattle.const_oid.proofs.arc_octets.+write_marked.Given as goal

abbrev pub decreases-write_marked : goal.decreases-write_marked
decreases-write_marked l = l.high
