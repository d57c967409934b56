-- Lemmas about the bound of arcs, which is the number of values of the type `Arc`. No other file
-- depends on its value.
use Rattle.std.proofs.Common.{◌≡◌, ℕ, ◌-◌, ◌^◌, ◌<◌, ◌≤◌, Option, Some, None, ltb, length, cond, refl, arith}
use Rattle.std.specs.Option.{SomeIff}
use Rattle.std.proofs.lemmas.Bool.{lt-ltb, le-ltb}
use Rattle.const_oid.specs.Bound.{Bound}
use Rattle.const_oid.specs.Digits.{digits}
use Rattle.const_oid.proofs.DigitLaws.{few_digits}

pub Bound-is : Bound ≡ 2 ^ 128
unfolding Bound
Bound-is = refl

-- A sum or product overflows the type exactly if it reaches the bound.
pub checked : (r : Option ℕ) (n : ℕ) → SomeIff r (n < 2 ^ 128) n → r ≡ cond (ltb n Bound) (Some n) None
checked None n past = let large : Bound ≤ n = omega (arith, Bound-is) in rw (le-ltb n Bound large) refl
checked (Some x) n fits = let small : n < Bound = omega (arith, fits.0, Bound-is) in rw (lt-ltb n Bound small, fits.1) refl

-- If a number overflows the type, so does a larger one.
pub unchecked : (m n : ℕ) → (m < 2 ^ 128 → ⊥) → m ≤ n → None ≡ cond (ltb n Bound) (Some n) None
unchecked m n past l = let large : Bound ≤ n = omega (arith, Bound-is) in rw (le-ltb n Bound large) refl

pub fits_type : (n : ℕ) → n < Bound → n < 2 ^ 128
fits_type n l = omega (arith, Bound-is)

pub below_bound : (n : ℕ) → n < 2 ^ 128 → n < Bound
below_bound n l = omega (arith, Bound-is)

-- The largest arc has at most 19 digits in base 128.
pub few_octets : length (digits 128 (Bound - 1)) ≤ 19
few_octets = few_digits 128 19 (Bound - 1) (omega arith) (omega arith) (omega (arith, Bound-is))

pub arc_fits : (n : ℕ) → n < 2 ^ 128 → length (digits 128 n) ≤ 19
arc_fits n l = few_digits 128 19 n (omega arith) (omega arith) (omega arith)
