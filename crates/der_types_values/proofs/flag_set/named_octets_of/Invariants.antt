-- The loop invariants of `flag_set::named_octets_of`.
use Rattle.std.proofs.Common.{◌≡◌, ◌-◌, ◌<◌, ◌≤◌, ◌^◌, ◌∷◌, ◌++◌, length, take}
use Rattle.der_core.specs.NamedBits.{set_octets}
use Rattle.der_types_values.proofs.flag_set.named_octets_of.Given as goal

abbrev pub invariant-loop-left : goal.invariant-loop-left
invariant-loop-left l = record {
  size : length l.octets ≡ 9;
  some : 1 ≤ l.len;
  most : l.len ≤ 9;
  small : l.left < 256 ^ (9 - l.len);
  octets : take l.len l.octets ++ set_octets l.left ≡ 0 ∷ set_octets l.number;
}

abbrev pub decreases-loop-left : goal.decreases-loop-left
decreases-loop-left l = l.left
