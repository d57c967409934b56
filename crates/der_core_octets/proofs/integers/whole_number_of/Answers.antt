-- Goals of `integers::whole_number_of` that the checker doesn't prove by itself.
use Rattle.std.proofs.Common.{◌≡◌, leb, Some, false, slice_get, sym, ◌∙◌}
use Rattle.std.specs.Int.Digits.{number_from_digits}
use Rattle.der_core_head.specs.Integers.{is_redundant}
use Rattle.der_core_octets.specs.Numbers.{turned}
use Rattle.der_core_octets.proofs.Magnitudes.{shortest_is}
use Rattle.der_core_octets.proofs.integers.whole_number_of.Goals as goal

pub returns : goal.returns
returns c =
    let first : slice_get c.args.octets.now 0 ≡ Some c.in-Some.first.now = cc c.in-Some.ensures.value in
    let some : is_redundant c.args.octets.now ≡ false = sym c.has_redundant_octet.ensures ∙ c.if-has_redundant_octet.false in
    (number_from_digits 256 (turned (leb 128 c.in-Some.first.now) c.args.octets.now), shortest_is c.args.tag c.args.octets.now c.in-Some.first.now first some, c.magnitude_of.ensures)
