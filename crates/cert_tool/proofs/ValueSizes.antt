-- Lemmas about the sizes of values of which a file has the first bytes.
use Rattle.std.proofs.Common.{◌≡◌, ℕ, ◌+◌, ◌≤◌, ◌<◌, nat_lt, length, arith, List, ◌++◌, Bool, true, false, if◌then◌else◌, refl, sym, subst, [], length-append, ltb-true, ltb-false}
use Rattle.std.proofs.Math.ListN.{get_or-append}
use Rattle.cert_tool.specs.OneValue.{IsBounded, at, has_surplus, most_surplus, value_size}

-- Not too many bytes follow the first value.
pub IsFew : List ℕ → Type 0
IsFew octets = length octets ≤ value_size octets + most_surplus

few : (c : Bool) (n size : ℕ) → nat_lt most_surplus n ≡ c
    → (if c then nat_lt (size + most_surplus) n else false) ≡ false → n ≤ size + most_surplus
few true n size e h = ltb-false _ _ h
few false n size e h = omega (arith, ltb-false _ _ e)

pub none_is_few : IsFew []
unfolding IsFew
none_is_few = omega arith

pub few_follow : (octets : List ℕ) → false ≡ has_surplus octets → IsFew octets
unfolding IsFew
few_follow octets h = few (nat_lt most_surplus (length octets)) (length octets) (value_size octets) refl (sym h)

pub few_are_bounded : (octets : List ℕ) → IsFew octets → IsBounded octets
unfolding IsFew IsBounded
few_are_bounded octets h = omega (arith, h)

same_size : (xs ys : List ℕ) → at xs 1 ≡ at ys 1 → at xs 2 ≡ at ys 2 → at xs 3 ≡ at ys 3 → at xs 4 ≡ at ys 4
    → at xs 5 ≡ at ys 5 → value_size xs ≡ value_size ys
same_size xs ys a b c d e = cc (a, b, c, d, e)

same_byte : (octets more : List ℕ) (i : ℕ) → i < length octets → at (octets ++ more) i ≡ at octets i
same_byte octets more i l = get_or-append octets more 0 i l

-- More bytes don't change the size of the first value.
kept : (octets more : List ℕ) → 6 ≤ length octets → value_size (octets ++ more) ≡ value_size octets
kept octets more l = same_size (octets ++ more) octets (same_byte octets more 1 (omega (arith, l)))
    (same_byte octets more 2 (omega (arith, l))) (same_byte octets more 3 (omega (arith, l)))
    (same_byte octets more 4 (omega (arith, l))) (same_byte octets more 5 (omega (arith, l)))

-- After one more read, the bytes are still bounded.
pub read_more : (octets more all : List ℕ) → IsFew octets → length more ≤ 2048 → all ≡ octets ++ more
    → IsBounded all
unfolding IsFew IsBounded
read_more octets more all h short same = subst IsBounded (sym same) (by (nat_lt (length octets) 6) refl)
  where
    by : (c : Bool) → nat_lt (length octets) 6 ≡ c → length (octets ++ more) ≤ value_size (octets ++ more) + (most_surplus + 2048)
    by true e = omega (arith, ltb-true _ _ e, short, length-append octets more)
    by false e = omega (arith, short, h, length-append octets more, kept octets more (ltb-false _ _ e))
