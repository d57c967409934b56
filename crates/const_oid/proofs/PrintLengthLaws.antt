-- Lemmas about the length of the dotted text: at most four bytes for each byte of the encoding.
use Rattle.std.proofs.Common.{◌≡◌, ℕ, zero, suc, ◌+◌, ◌*◌, ◌^◌, ◌<◌, ◌≤◌, List, [], ◌∷◌, length, ap, length-append, arith}
use Rattle.std.specs.List.{flat_map}
use Rattle.std.proofs.Math.Nat.{pow-suc}
use Rattle.std.proofs.lemmas.List.{length-map}
use Rattle.const_oid.specs.Digits.{digits}
use Rattle.const_oid.specs.IdentifierOctets.{arc_octets, identifier_octets, IsIdentifier}
use Rattle.const_oid.specs.DottedText.{decimal, dot_decimal, dotted}
use Rattle.const_oid.proofs.DigitLaws.{few_digits, below_power}
use Rattle.const_oid.proofs.DottedLaws.{dotted-cons}
use Rattle.const_oid.proofs.EncodingLaws.{length-digits-pos, length-arc_octets}

few_decimals : (k n : ℕ) → 0 < k → n < 10 ^ k → length (decimal n) ≤ k
unfolding decimal
few_decimals k n some l = omega (arith, few_digits 10 k n (omega arith) some l, length-map (digits 10 n) (λ d. 48 + d))

-- Three decimal digits are enough for one digit in base 128.
thousands : (k : ℕ) → 128 ^ k ≤ 10 ^ (3 * k)
thousands zero = omega arith
thousands (suc k) =
    let e : 3 * suc k ≡ suc (suc (suc (3 * k))) = omega arith in
    omega (arith, thousands k, pow-suc 128 k, ap (λ n. 10 ^ n) e, pow-suc 10 (suc (suc (3 * k))), pow-suc 10 (suc (3 * k)), pow-suc 10 (3 * k))

within_three : (n : ℕ) → length (decimal n) ≤ 3 * length (digits 128 n)
within_three n =
    let k = length (digits 128 n) in
    few_decimals (3 * k) n (omega (arith, length-digits-pos n)) (omega (arith, thousands k, below_power 128 n (omega arith)))

length-dot_decimal : (n : ℕ) → length (dot_decimal n) ≤ 4 * length (arc_octets n)
unfolding dot_decimal
length-dot_decimal n = omega (arith, within_three n, length-digits-pos n, length-arc_octets n)

later_short : (arcs : List ℕ) → length (flat_map dot_decimal arcs) ≤ 4 * length (flat_map arc_octets arcs)
later_short [] = omega arith
later_short (a ∷ arcs) =
    omega (arith, length-append (dot_decimal a) (flat_map dot_decimal arcs), length-append (arc_octets a) (flat_map arc_octets arcs), length-dot_decimal a, later_short arcs)

pub dotted_short : (bound : ℕ) (arcs : List ℕ) → IsIdentifier bound arcs → length (dotted arcs) ≤ 4 * length (identifier_octets arcs)
unfolding IsIdentifier identifier_octets dot_decimal
dotted_short bound (a ∷ b ∷ arcs) id =
    omega (
      arith,
      ap length (dotted-cons a (b ∷ arcs)),
      length-append (decimal a) (flat_map dot_decimal (b ∷ arcs)),
      length-append (dot_decimal b) (flat_map dot_decimal arcs),
      few_decimals 1 a (omega arith) (omega (arith, id.0)),
      few_decimals 2 b (omega arith) (omega (arith, id.1)),
      later_short arcs,
    )
dotted_short bound _ id = absurd id
