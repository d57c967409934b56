-- The loop invariants of `packed::front_len`.
use Rattle.std.proofs.Common.{◌≡◌, ◌≤◌, length, take}
use Rattle.const_oid.specs.PackedOctets.{unmarked_front}
use Rattle.const_oid.proofs.packed.front_len.Given as goal

-- Each byte from here on has bit 8 set.
abbrev pub invariant-loop-end : goal.invariant-loop-end
invariant-loop-end l = (l.end ≤ length l.bytes) × (unmarked_front (take l.end l.bytes) ≡ unmarked_front l.bytes)

abbrev pub decreases-loop-end : goal.decreases-loop-end
decreases-loop-end l = l.end
