-- Goals of `fewest::fewest_unsigned` that the checker doesn't prove by itself.
use Rattle.std.proofs.Common.{refl, sym, ap, ◌∙◌, arith}
use Rattle.der_core.specs.Oid.Digits.{digits}
use Rattle.der_types_numbers.proofs.Naturals.{digits-fewest, number-shorter, zero_some}
use Rattle.der_core.proofs.Results.{bytes_drop}
use Rattle.der_types_numbers.proofs.fewest.fewest_unsigned.Goals as goal

pub loop-rest-init : goal.loop-rest-init
loop-rest-init c = record {
  some = c.requires;
  number = refl;
  bytes = λ i. omega (arith, c.type_inv.octets i);
}

pub loop-rest-preserved : goal.loop-rest-preserved
loop-rest-preserved c = record {
  some = grind (arith, number-shorter, zero_some);
  number = grind (arith, number-shorter, zero_some);
  bytes = rw c.split_at.ensures.back (bytes_drop 1 c.loop-rest.rest.now c.loop-rest.invariant.bytes);
}

pub returns-clause-digits : goal.returns-clause-digits
returns-clause-digits c =
    sym (digits-fewest c.loop-rest.rest.now c.loop-rest.invariant.bytes (omega arith) (sym c.begins_with_zero.ensures ∙ c.loop-rest-test.false)) ∙ ap (digits 256) c.loop-rest.invariant.number
