-- The loop invariants of `integers::integer_octets_of`.
use Rattle.std.proofs.Common.{◌≡◌, ◌+◌, ◌<◌, ◌≤◌, ◌^◌, ◌++◌, length, drop}
use Rattle.der_core_head.specs.Oid.Digits.{digits}
use Rattle.der_core_octets.specs.Numbers.{turned}
use Rattle.der_core_octets.proofs.integers.integer_octets_of.Given as goal

abbrev pub invariant-loop-left : goal.invariant-loop-left
invariant-loop-left l = record {
  size : length l.octets ≡ 17;
  at : l.at ≤ 16;
  small : l.left < 256 ^ l.at;
  octets : turned l.negative (digits 256 l.left) ++ drop (l.at + 1) l.octets ≡ turned l.negative (digits 256 l.number);
}

abbrev pub decreases-loop-left : goal.decreases-loop-left
decreases-loop-left l = l.left
