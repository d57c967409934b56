-- The loop invariants of `parts::join_parts`.
use Rattle.std.proofs.Common.{◌≡◌, ◌≤◌, ◌+◌, ◌-◌, [], length}
use Rattle.der_core_octets.specs.Parts.{joined}
use Rattle.der_core_octets.proofs.parts.join_parts.Given as goal

abbrev pub invariant-loop : goal.invariant-loop
invariant-loop l = record {
  total : joined l.tag (l.len - l.counter) l.bytes.items l.rest ≡ joined l.tag l.len [] l.octets;
  fewer : length l.bytes.items + length l.rest ≤ length l.octets;
}
