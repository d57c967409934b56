-- Goals of `flag_set::named_octets_of` that the checker doesn't prove by itself.
use Rattle.std.proofs.Common.{◌≡◌, ◌+◌, ◌-◌, ◌<◌, ◌^◌, ◌/◌, ◌++◌, take, ℕ, ap, subst, ◌∙◌, arith, slice_set, length-set}
use Rattle.der_core.specs.NamedBits.{set_octets}
use Rattle.der_types_values.proofs.NamedSteps.{left_some, left_next, set_octets-more, named_some, named_none}
use Rattle.der_types_values.proofs.flag_set.named_octets_of.Goals as goal

pub loop-left-preserved : goal.loop-left-preserved
loop-left-preserved c =
    let len = c.loop-left.len in
    let left = c.loop-left.left in
    let inv = c.loop-left.invariant in
    let some : 0 < 9 - len = left_some left (9 - len) (omega arith) inv.small in
    let place : 9 - len - 1 ≡ 9 - (len + 1) = omega arith in
    let small : left / 256 < 256 ^ (9 - (len + 1)) = let P : ℕ → Type 0 = λ m. left / 256 < 256 ^ m in subst P place (left_next left (9 - len) (omega arith) inv.small) in
    record {
      size = length-set c.loop-left.octets len c.reverse_bits.result ∙ inv.size;
      some = omega arith;
      most = omega arith;
      small = small;
      octets = ap (λ o. take (len + 1) (slice_set c.loop-left.octets len o) ++ set_octets (left / 256)) c.reverse_bits.ensures ∙ set_octets-more c.loop-left.octets len left _ (omega (arith, inv.size)) (omega arith) inv.octets;
    }

pub returns-then-len-gt1-clause-octets : goal.returns-then-len-gt1-clause-octets
returns-then-len-gt1-clause-octets c =
    let inv = c.loop-left.invariant in
    named_some c.loop-left.octets c.loop-left.len c.loop-left.left c.args.number (omega arith) (omega arith) (omega arith) inv.octets

pub returns-else-len-gt1-clause-octets : goal.returns-else-len-gt1-clause-octets
returns-else-len-gt1-clause-octets c =
    let inv = c.loop-left.invariant in
    named_none c.loop-left.octets c.loop-left.len c.loop-left.left c.args.number (omega arith) (omega arith) (omega arith) inv.octets
