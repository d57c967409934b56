-- The loop invariants of `indefinite::body_len_of`.
use Rattle.std.proofs.Common.{length}
use Rattle.der_core_octets.proofs.Levels.{Continues}
use Rattle.der_core_octets.proofs.indefinite.body_len_of.Given as goal

abbrev pub invariant-loop-levels : goal.invariant-loop-levels
invariant-loop-levels l = Continues l.octets l.levels l.rest

abbrev pub decreases-loop-levels : goal.decreases-loop-levels
decreases-loop-levels l = length l.rest
