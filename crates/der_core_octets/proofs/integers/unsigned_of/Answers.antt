-- Goals of `integers::unsigned_of` that the checker doesn't prove by itself.
use Rattle.std.proofs.Common.{◌≡◌, ◌≤◌, ◌^◌, ℕ, Ok, pos, Bool, Option, subst}
use Rattle.der_core_head.specs.Integers.{shortest_integer}
use Rattle.der_core_octets.specs.Numbers.{IsMagnitude, with_sign}
use Rattle.der_core_octets.proofs.Magnitudes.{unsigned_large}
use Rattle.der_core_octets.proofs.integers.unsigned_of.Goals as goal

pub returns-in_default-clause-exact : goal.returns-in_default-clause-exact
returns-in_default-clause-exact c =
    let n = c.in_ok-negative.ensures in
    let large : 2 ^ 128 ≤ n.0 = let P : Option ℕ → Type 0 = IsMagnitude n.0 in subst P c.in_default.is n.2 in
    let spelled : shortest_integer c.args.tag c.args.octets.now ≡ Ok (pos n.0) =
    let P : Bool → Type 0 = λ b. shortest_integer c.args.tag c.args.octets.now ≡ Ok (with_sign b n.0) in subst P c.if-negative.false n.1 in
    rw c.from-in_default.ensures (unsigned_large c.args.bits c.args.tag c.args.octets.now n.0 spelled c.requires large)
