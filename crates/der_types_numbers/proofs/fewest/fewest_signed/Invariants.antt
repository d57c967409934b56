-- The loop invariants of `fewest::fewest_signed`.
use Rattle.std.proofs.Common.{◌≡◌, ◌<◌, length}
use Rattle.der_core.specs.Integers.{integer_of}
use Rattle.der_core.proofs.Results.{IsBytes}
use Rattle.der_types_numbers.proofs.fewest.fewest_signed.Given as goal

abbrev pub invariant-loop-rest : goal.invariant-loop-rest
invariant-loop-rest l = record {
  some : 0 < length l.rest;
  number : integer_of l.rest ≡ integer_of l.octets;
  bytes : IsBytes l.rest;
}

abbrev pub decreases-loop-rest : goal.decreases-loop-rest
decreases-loop-rest l = length l.rest
