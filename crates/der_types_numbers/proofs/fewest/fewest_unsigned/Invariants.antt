-- The loop invariants of `fewest::fewest_unsigned`.
use Rattle.std.proofs.Common.{◌≡◌, ◌<◌, length}
use Rattle.std.specs.Int.Digits.{number_from_digits}
use Rattle.der_core.proofs.Results.{IsBytes}
use Rattle.der_types_numbers.proofs.fewest.fewest_unsigned.Given as goal

abbrev pub invariant-loop-rest : goal.invariant-loop-rest
invariant-loop-rest l = record {
  some : 0 < length l.rest;
  number : number_from_digits 256 l.rest ≡ number_from_digits 256 l.octets;
  bytes : IsBytes l.rest;
}

abbrev pub decreases-loop-rest : goal.decreases-loop-rest
decreases-loop-rest l = length l.rest
