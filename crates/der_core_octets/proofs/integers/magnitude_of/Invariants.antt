-- The loop invariants of `integers::magnitude_of`.
use Rattle.std.proofs.Common.{◌≡◌, drop}
use Rattle.std.specs.Int.Digits.{number_from_digits, number_from_digits_after}
use Rattle.der_core_octets.specs.Numbers.{turned}
use Rattle.der_core_octets.proofs.integers.magnitude_of.Given as goal

abbrev pub invariant-loop-octet : goal.invariant-loop-octet
invariant-loop-octet l = number_from_digits_after 256 l.number (turned l.negative (drop l.octet-index l.octets)) ≡ number_from_digits 256 (turned l.negative l.octets)
