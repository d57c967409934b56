-- Goals of `integers::signed_of` that the checker doesn't prove by itself.
use Rattle.std.proofs.Common.{◌≤◌, ◌^◌, ℕ, Option, subst}
use Rattle.der_core_octets.specs.Numbers.{IsMagnitude}
use Rattle.der_core_octets.proofs.Magnitudes.{signed_large}
use Rattle.der_core_octets.proofs.integers.signed_of.Goals as goal

pub returns-in_default-clause-exact : goal.returns-in_default-clause-exact
returns-in_default-clause-exact c =
    let n = c.in_ok-negative.ensures in
    let large : 2 ^ 128 ≤ n.0 = let P : Option ℕ → Type 0 = IsMagnitude n.0 in subst P c.in_default.is n.2 in
    rw c.from.ensures (signed_large c.args.bits c.args.tag c.args.octets.now c.in_ok-negative.negative n.0 n.1 c.requires.high large)
