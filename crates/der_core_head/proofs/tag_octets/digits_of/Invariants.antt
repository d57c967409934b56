-- The loop invariants of `tag_octets::digits_of`.
use Rattle.std.proofs.Common.{◌≡◌, drop}
use Rattle.der_core_head.specs.Tags.{digits_at}
use Rattle.der_core_head.proofs.tag_octets.digits_of.Given as goal

abbrev pub invariant-loop-octet : goal.invariant-loop-octet
invariant-loop-octet l = record {
  count : l.count ≡ l.octet-index;
  same : digits_at l.number (drop l.octet-index l.octets) ≡ digits_at 0 l.octets;
}
