-- The loop invariants of `flag_set::number_of`.
use Rattle.std.proofs.Common.{◌≡◌, ◌-◌, ◌<◌, ◌^◌, length, drop}
use Rattle.der_core.specs.NamedBits.{spelled_set}
use Rattle.der_types_values.proofs.flag_set.number_of.Given as goal

abbrev pub invariant-loop-count : goal.invariant-loop-count
invariant-loop-count l = record {
  value : l.number ≡ spelled_set (drop (length l.octets - l.count) l.octets);
  small : l.number < 256 ^ l.count;
}
