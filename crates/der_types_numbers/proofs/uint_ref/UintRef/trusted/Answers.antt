-- Goals of `uint_ref::UintRef::trusted` that the checker doesn't prove by itself.
use Rattle.std.proofs.Common.{arith}
use Rattle.der_types_numbers.proofs.Naturals.{natural_few}
use Rattle.der_types_numbers.proofs.uint_ref.UintRef.trusted.Goals as goal

pub invariant_of-result : goal.invariant_of-result
invariant_of-result c = record {
  digits = c.requires.digits;
  some = c.requires.some;
  few = omega (arith, natural_few c.args.bytes.now c.requires.digits, c.requires.short);
  short = c.requires.short;
}
