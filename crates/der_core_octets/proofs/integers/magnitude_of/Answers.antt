-- Goals of `integers::magnitude_of` that the checker doesn't prove by itself.
use Rattle.std.proofs.Common.{arith}
use Rattle.der_core_octets.proofs.Magnitudes.{magnitude_large}
use Rattle.der_core_octets.proofs.integers.magnitude_of.Goals as goal

pub returns-then-number-ge-LARGE : goal.returns-then-number-ge-LARGE
returns-then-number-ge-LARGE c =
    omega (arith, c.loop-octet.invariant, magnitude_large c.args.negative c.loop-octet.number c.loop-octet.octet-index c.args.octets.now c.loop-octet-test.true c.if-number-ge-LARGE.true)
