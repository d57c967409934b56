-- The loop invariants of `octets::first_arc_len`.
use Rattle.std.proofs.Common.{ℕ, get_or}
use Rattle.const_oid.proofs.LongArcLaws.{IsMost, IsInside}
use Rattle.const_oid.proofs.octets.first_arc_len.Given as goal

-- The bytes so far are those of an unfinished arc.
abbrev pub invariant-loop-i : goal.invariant-loop-i
invariant-loop-i l = IsMost (get_or l.octets 0 0) l.most × ((value : ℕ) × IsInside l.octets l.i value)
