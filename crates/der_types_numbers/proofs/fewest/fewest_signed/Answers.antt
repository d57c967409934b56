-- Goals of `fewest::fewest_signed` that the checker doesn't prove by itself.
use Rattle.std.proofs.Common.{refl, sym, ap, ◌∙◌, arith}
use Rattle.der_core.specs.Integers.{integer_octets}
use Rattle.der_core.proofs.IntegerLaws.{integer_octets-of}
use Rattle.der_core.proofs.Results.{bytes_drop}
use Rattle.der_types_numbers.proofs.Naturals.{integer_of-shorter, redundant_some}
use Rattle.der_types_numbers.proofs.fewest.fewest_signed.Goals as goal

pub loop-rest-init : goal.loop-rest-init
loop-rest-init c = record {
  some = c.requires;
  number = refl;
  bytes = λ i. omega (arith, c.type_inv.octets i);
}

pub loop-rest-preserved : goal.loop-rest-preserved
loop-rest-preserved c = record {
  some = grind (arith, integer_of-shorter, redundant_some);
  number = grind (arith, integer_of-shorter, redundant_some);
  bytes = rw c.split_at.ensures.back (bytes_drop 1 c.loop-rest.rest.now c.loop-rest.invariant.bytes);
}

pub returns-clause-octets : goal.returns-clause-octets
returns-clause-octets c =
    sym (integer_octets-of c.loop-rest.rest.now c.loop-rest.invariant.bytes (omega arith) (sym c.has_redundant_octet.ensures ∙ c.loop-rest-test.false)) ∙ ap integer_octets c.loop-rest.invariant.number
