-- Lemmas about the integer of a content, byte by byte.
use Rattle.std.proofs.Common.{◌≡◌, ℕ, ◌+◌, ◌*◌, ◌-◌, ◌^◌, ◌<◌, ◌≤◌, Bool, true, false, List, ◌∷◌, length, get_or, drop, refl, ap, subst, sym, ◌∙◌, arith, leb, [], Some, Ok, Err, slice_get, pos, lt-ltb, le-ltb, pow_mono, pow-suc, zero, suc, ◌/◌, ◌%◌, ◌++◌, append_assoc}
use Rattle.std.proofs.lemmas.Bool.Decides.{nat_tests}
use Rattle.std.specs.Int.Digits.{number_from_digits, number_from_digits_after, AllBelowBase}
use Rattle.der_core_head.specs.declared.error.ErrorKind.TheVariants as kinds
use Rattle.der_core_head.specs.declared.tag.Tag.{Tag}
use Rattle.der_core_head.specs.Integers.{positive, integer_octets, unsigned, signed, is_redundant, integer_of, shortest_integer, integer_read}
use Rattle.std.proofs.lemmas.Int.Digits.{number_after_ge}
use Rattle.der_core_octets.specs.Numbers.{with_sign, turn, turned}
use Rattle.der_core_head.specs.Oid.Digits.{digits}
use Rattle.der_core_head.proofs.Oid.DigitLaws.{digits-Digits, digits-one, digits-more}
use Rattle.std.proofs.lemmas.List.{drop_more, map-append}
use Rattle.std.proofs.lemmas.Nat.{div_below}

turned_front : (b : Bool) (i : ℕ) (w : List ℕ) → i < length w → turned b (drop i w) ≡ turn b (get_or w i 0) ∷ turned b (drop (i + 1) w)
turned_front true i w h = rw (drop_more w i 0 h) refl
turned_front false i w h = drop_more w i 0 h

pub magnitude_more : (b : Bool) (n i : ℕ) (w : List ℕ) → i < length w
    → number_from_digits_after 256 n (turned b (drop i w)) ≡ number_from_digits_after 256 (256 * n + turn b (get_or w i 0)) (turned b (drop (i + 1) w))
magnitude_more b n i w h =
    let same : n * 256 + turn b (get_or w i 0) ≡ 256 * n + turn b (get_or w i 0) = omega arith in
    ap (number_from_digits_after 256 n) (turned_front b i w h) ∙ ap (λ m. number_from_digits_after 256 m (turned b (drop (i + 1) w))) same

pub magnitude_large : (b : Bool) (n i : ℕ) (w : List ℕ) → i < length w → 2 ^ 120 ≤ n → 2 ^ 128 ≤ number_from_digits_after 256 n (turned b (drop i w))
magnitude_large b n i w h large =
    rw (magnitude_more b n i w h) (omega (arith, number_after_ge 256 (256 * n + turn b (get_or w i 0)) (turned b (drop (i + 1) w)) (omega arith)))

-- The integer of the bytes depends on the first bit.
pub shortest_is : (t : Tag) (w : List ℕ) (d : ℕ) → slice_get w 0 ≡ Some d → is_redundant w ≡ false
    → shortest_integer t w ≡ Ok (with_sign (leb 128 d) (number_from_digits 256 (turned (leb 128 d) w)))
unfolding shortest_integer integer_of
shortest_is t [] d e h = absurd cc
shortest_is t (a ∷ w) d e h = grind (arith, nat_tests)

-- An integer that exceeds its type.
pub unsigned_large : (k : ℕ) (t : Tag) (w : List ℕ) (n : ℕ) → shortest_integer t w ≡ Ok (pos n) → k ≤ 128 → 2 ^ 128 ≤ n → integer_read (unsigned k) t w ≡ Err (kinds.Length t)
unsigned_large k t w n e le large = rw (e, le-ltb n (2 ^ k) (omega (arith, pow_mono {i = k} {j = 128} le))) refl

pub signed_large : (k : ℕ) (t : Tag) (w : List ℕ) (b : Bool) (n : ℕ) → shortest_integer t w ≡ Ok (with_sign b n) → k ≤ 128 → 2 ^ 128 ≤ n → integer_read (signed k) t w ≡ Err (kinds.Length t)
signed_large k t w true n e le large = rw (e, le-ltb n (2 ^ (k - 1)) (omega (arith, pow_mono {i = k - 1} {j = 128} (omega arith)))) refl
signed_large k t w false n e le large = rw (e, le-ltb n (2 ^ (k - 1)) (omega (arith, pow_mono {i = k - 1} {j = 128} (omega arith)))) refl

-- Writing, from the last byte to the first

turned-append : (b : Bool) (u w : List ℕ) → turned b (u ++ w) ≡ turned b u ++ turned b w
turned-append true u w = map-append (λ d. 255 - d) u w
turned-append false u w = refl

pub turned_digits-more : (b : Bool) (n : ℕ) (w : List ℕ) → 256 ≤ n → turned b (digits 256 (n / 256)) ++ (turn b (n % 256) ∷ w) ≡ turned b (digits 256 n) ++ w
turned_digits-more b n w l =
    let split = ap (turned b) (digits-more 256 n (omega arith) l) ∙ turned-append b (digits 256 (n / 256)) (n % 256 ∷ []) in
    sym (ap (λ u. u ++ w) split ∙ append_assoc (turned b (digits 256 (n / 256))) (turned b (n % 256 ∷ [])) w ∙ one b)
  where
    one : (b : Bool) → turned b (digits 256 (n / 256)) ++ (turned b (n % 256 ∷ []) ++ w) ≡ turned b (digits 256 (n / 256)) ++ (turn b (n % 256) ∷ w)
    one true = refl
    one false = refl

pub place_left : (n at : ℕ) → 256 ≤ n → n < 256 ^ at → 0 < at
place_left n zero l h = absurd (omega arith)
place_left n (suc k) l h = omega arith

pub small_next : (n at : ℕ) → 256 ≤ n → n < 256 ^ at → n / 256 < 256 ^ (at - 1)
small_next n zero l h = absurd (omega arith)
small_next n (suc k) l h =
    let next : n / 256 < 256 ^ k = div_below n 256 (256 ^ k) (omega arith) (rw pow-suc at h) in
    let place : k ≡ suc k - 1 = omega arith in
    let P : ℕ → Type 0 = λ m. n / 256 < 256 ^ m in
    subst P place next

pub place_some : (n at : ℕ) → 128 ≤ n → n < 256 ^ at → 0 < at
place_some n zero l h = absurd (omega arith)
place_some n (suc k) l h = omega arith

-- The content of an integer, from its digits

content_is : (b : Bool) (n : ℕ) → integer_octets (with_sign b n) ≡ turned b (positive (digits 256 n))
unfolding integer_octets
content_is true n = refl
content_is false n = refl

first_is : (b : Bool) (left d : ℕ) (w ds : List ℕ) → left < 256 → d < 256 → turn b left ∷ w ≡ turned b (d ∷ ds) → d ≡ left
first_is true left d w ds l h e = omega (arith, ap (λ (u : List ℕ). get_or u 0 0) e)
first_is false left d w ds l h e = omega (arith, ap (λ (u : List ℕ). get_or u 0 0) e)

from_first : (b : Bool) (n left : ℕ) (w : List ℕ) → left < 256 → turned b (digits 256 left) ++ w ≡ turned b (digits 256 n) → turn b left ∷ w ≡ turned b (digits 256 n)
from_first true n left w l e = rw (digits-one 256 left l) at e
from_first false n left w l e = rw (digits-one 256 left l) at e

low : (b : Bool) (left : ℕ) (w ds : List ℕ) → AllBelowBase 256 ds → left < 128 → turn b left ∷ w ≡ turned b ds → turn b left ∷ w ≡ turned b (positive ds)
low true left w [] all l e = absurd cc
low false left w [] all l e = absurd cc
low b left w (d ∷ ds) all l e =
    let same : d ≡ left = first_is b left d w ds (omega arith) all.0 e in
    rw (lt-ltb d 128 (omega arith)) e

high : (b : Bool) (left : ℕ) (w ds : List ℕ) → AllBelowBase 256 ds → 128 ≤ left → left < 256 → turn b left ∷ w ≡ turned b ds → turn b 0 ∷ turn b left ∷ w ≡ turned b (positive ds)
high true left w [] all l h e = absurd cc
high false left w [] all l h e = absurd cc
high b left w (d ∷ ds) all l h e =
    let same : d ≡ left = first_is b left d w ds h all.0 e in
    rw (le-ltb d 128 (omega arith)) (ap (λ (u : List ℕ). turn b 0 ∷ u) e ∙ zero_first b (d ∷ ds))
  where
    zero_first : (b : Bool) (u : List ℕ) → turn b 0 ∷ turned b u ≡ turned b (0 ∷ u)
    zero_first true u = refl
    zero_first false u = refl

pub integer_low : (b : Bool) (n left : ℕ) (w : List ℕ) → left < 128 → turned b (digits 256 left) ++ w ≡ turned b (digits 256 n) → turn b left ∷ w ≡ integer_octets (with_sign b n)
integer_low b n left w l e = low b left w (digits 256 n) (digits-Digits 256 n (omega arith)).below l (from_first b n left w (omega arith) e) ∙ sym (content_is b n)

pub integer_high : (b : Bool) (n left : ℕ) (w : List ℕ) → 128 ≤ left → left < 256 → turned b (digits 256 left) ++ w ≡ turned b (digits 256 n)
    → turn b 0 ∷ turn b left ∷ w ≡ integer_octets (with_sign b n)
integer_high b n left w l h e = high b left w (digits 256 n) (digits-Digits 256 n (omega arith)).below l h (from_first b n left w h e) ∙ sym (content_is b n)
