-- Lemmas about the contents of integers, and of named bits, which are numbers.
use Rattle.std.proofs.lemmas.Bool.Decides.{nat_tests}
use Rattle.std.proofs.Common.{◌≡◌, ℕ, zero, suc, ◌-◌, ◌<◌, ◌≤◌, true, false, List, [], ◌∷◌, length, get_or, Ok, Err, refl, ap, subst, sym, ◌∙◌, arith, ◌⊎◌, inl, inr, ⊎_elim, ℤ, pos, negsuc, nat_lt, ◌==◌, Contains, ◌+◌, ◌*◌, ◌/◌, ◌%◌, map, reverse}
use Rattle.std.specs.List.{list_any}
use Rattle.std.specs.Int.Digits.{number_from_digits}
use Rattle.std.proofs.lemmas.Bool.{lt-ltb, le-ltb, eqb-true, eq-eqb, ltb-false, cases_lt, or_cases, or_from, or_left, or_right, or_parts, false≢true, cond-true, cond-false, agree_below_at, ltb-true, ne_eqb, cases_eq}
use Rattle.std.proofs.lemmas.List.{length-map, reverse-reverse, reverse-append}
use Rattle.const_oid.specs.Digits.{digits}
use Rattle.const_oid.proofs.DigitLaws.{digits-Digits, digits-one, first_of_digits-pos, digits-number_from_digits, digits-more, quotient_pos}
use Rattle.der_core_head.specs.declared.error.ErrorKind.TheVariants as kinds
use Rattle.der_core_head.specs.declared.tag.Tag.{Tag}
use Rattle.der_core_head.specs.Octets.{IsOctets, ◌>>=◌}
use Rattle.der_core_head.specs.Integers.{positive, complement, integer_octets, integer_of, Numbers, every, natural, unsigned, signed, among, within, IsNumber, is_redundant, checked, shortest_integer, integer_read}
use Rattle.der_core_head.proofs.Results.{fine, ok_is, bind_ok, if_ok, IsBytes, octets_are, bytes_tail}
use mathlib.Core.List.{reverse_aux}
use Rattle.std.specs.Int.{w8, reverse_bits, reverse_bits_onto}
use Rattle.std.proofs.lemmas.Int.Digits.{number_push}
use Rattle.std.proofs.lemmas.Nat.Bits.{bit_at-trailing_zeros}
use Rattle.der_core_head.specs.BitStrings.{last_octet}
use Rattle.der_core_head.specs.NamedBits.{set_octets, unused_bits, named_octets, spelled_set, IsNamed, ends_in_one, named_read}

-- The content of an integer decodes to it, and no two integers have the same content

-- Inverted bits

complement-complement : (w : List ℕ) → IsOctets w → complement (complement w) ≡ w
complement-complement [] h = refl
complement-complement (d ∷ ds) h = grind (arith, h.0, complement-complement ds h.1)

complement-below : (w : List ℕ) → IsOctets (complement w)
complement-below [] = tt
complement-below (d ∷ ds) = (omega arith, complement-below ds)

-- Inverting all bits doesn't change whether the first nine bits are equal.
is_redundant-complement : (w : List ℕ) → IsOctets w → is_redundant w ≡ false → is_redundant (complement w) ≡ false
is_redundant-complement [] h e = refl
is_redundant-complement (a ∷ []) h e = refl
is_redundant-complement (a ∷ b ∷ w) h e = grind (arith, nat_tests)

-- Integers that aren't negative

-- The bytes of `n` are the fewest, and their first bit is zero.
pub record IsPositive (n : ℕ) (w : List ℕ) : Type 0 where
  pub below : IsOctets w
  pub number : number_from_digits 256 w ≡ n
  pub first : get_or w 0 128 < 128
  pub shortest : is_redundant w ≡ false

-- There is one digit, or the first digit isn't zero.
digits_shortest : (n : ℕ) → (length (digits 256 n) ≡ 1) ⊎ (0 < get_or (digits 256 n) 0 0)
digits_shortest n = grind (arith, nat_tests, digits-one 256 n, first_of_digits-pos 256 n)

not_redundant : (d : ℕ) (ds : List ℕ) → (length (d ∷ ds) ≡ 1) ⊎ (0 < d) → d < 128 → is_redundant (d ∷ ds) ≡ false
not_redundant d [] h l = refl
not_redundant d (e ∷ ds) (inl n) l = absurd (omega arith)
not_redundant d (e ∷ ds) (inr some) l = grind (arith, nat_tests)

positive_is : (ds : List ℕ) → IsOctets ds → 0 < length ds → (length ds ≡ 1) ⊎ (0 < get_or ds 0 0) → IsPositive (number_from_digits 256 ds) (positive ds)
positive_is [] h some short = absurd (omega arith)
positive_is (d ∷ ds) h some short =
    elim (cases_lt d 128) [
      | inl l ↦ rw (lt-ltb d 128 l) (record { below = h; number = refl; first = l; shortest = not_redundant d ds short l })
      | inr l ↦ rw (le-ltb d 128 l) (record { below = (omega arith, h); number = refl; first = omega arith; shortest = or_from (nat_lt d 128) false (le-ltb d 128 l) refl })
    ]

positive_of : (n : ℕ) → IsPositive n (positive (digits 256 n))
positive_of n =
    let ds = digits-Digits 256 n (omega arith) in
    subst (λ m. IsPositive m (positive (digits 256 n))) ds.number (positive_is (digits 256 n) ds.below ds.some (digits_shortest n))

-- Bytes in the shortest form are those of their value.
positive-digits : (w : List ℕ) → IsOctets w → get_or w 0 128 < 128 → is_redundant w ≡ false → positive (digits 256 (number_from_digits 256 w)) ≡ w
positive-digits [] h l e = absurd (omega arith)
positive-digits (d ∷ []) h l e =
    ap positive (digits-number_from_digits 256 (d ∷ []) (omega arith) h (inl refl)) ∙ cond-true (nat_lt d 128) (d ∷ []) (0 ∷ d ∷ []) (lt-ltb d 128 l)
positive-digits (zero ∷ c ∷ ds) h l e =
    let parts = or_parts (nat_lt c 128) false e in
    let large = ltb-false c 128 parts.0 in
    ap positive (digits-number_from_digits 256 (c ∷ ds) (omega arith) h.1 (inr (omega arith)))
    ∙ cond-false (nat_lt c 128) (c ∷ ds) (0 ∷ c ∷ ds) parts.0
positive-digits (suc d ∷ c ∷ ds) h l e =
    ap positive (digits-number_from_digits 256 (suc d ∷ c ∷ ds) (omega arith) h (inr (omega arith)))
    ∙ cond-true (nat_lt (suc d) 128) (suc d ∷ c ∷ ds) (0 ∷ suc d ∷ c ∷ ds) (lt-ltb (suc d) 128 l)

first_octet : (w : List ℕ) → get_or w 0 128 < 128 → 0 < length w
first_octet [] l = absurd (omega arith)
first_octet (d ∷ ds) l = omega arith

-- Both signs

integer_of-positive : (w : List ℕ) → get_or w 0 128 < 128 → integer_of w ≡ pos (number_from_digits 256 w)
unfolding integer_of
integer_of-positive [] l = absurd (omega arith)
integer_of-positive (d ∷ ds) l = cond-true (nat_lt d 128) (pos (number_from_digits 256 (d ∷ ds))) (negsuc (number_from_digits 256 (complement (d ∷ ds)))) (lt-ltb d 128 l)

integer_of-negative : (w : List ℕ) → 128 ≤ get_or w 0 0 → integer_of w ≡ negsuc (number_from_digits 256 (complement w))
unfolding integer_of
integer_of-negative [] l = absurd (omega arith)
integer_of-negative (d ∷ ds) l = cond-false (nat_lt d 128) (pos (number_from_digits 256 (d ∷ ds))) (negsuc (number_from_digits 256 (complement (d ∷ ds)))) (le-ltb d 128 l)

complement-first : (w : List ℕ) → get_or w 0 128 < 128 → 128 ≤ get_or (complement w) 0 0
complement-first [] l = absurd (omega arith)
complement-first (d ∷ ds) l = omega arith

pub integer_of-octets : (z : ℤ) → integer_of (integer_octets z) ≡ z
unfolding integer_octets
integer_of-octets (pos n) =
    let p = positive_of n in
    integer_of-positive (positive (digits 256 n)) p.first ∙ ap (λ m. pos m) p.number
integer_of-octets (negsuc n) =
    let p = positive_of n in
    integer_of-negative (complement (positive (digits 256 n))) (complement-first (positive (digits 256 n)) p.first)
    ∙ ap (λ w. negsuc (number_from_digits 256 w)) (complement-complement (positive (digits 256 n)) p.below)
    ∙ ap (λ m. negsuc m) p.number

pub integer_octets-of : (w : List ℕ) → IsBytes w → 0 < length w → is_redundant w ≡ false → integer_octets (integer_of w) ≡ w
unfolding integer_octets
integer_octets-of [] h some e = absurd (omega arith)
integer_octets-of (d ∷ ds) h some e =
    let w = d ∷ ds in
    let octets = octets_are w h in
    elim (cases_lt d 128) [
      | inl l ↦ ap integer_octets (integer_of-positive w l) ∙ positive-digits w octets l e
      | inr l ↦
          ap integer_octets (integer_of-negative w l)
          ∙ ap complement (positive-digits (complement w) (complement-below w) (omega arith) (is_redundant-complement w octets e))
          ∙ complement-complement w octets
    ]

pub integer_octets-not_redundant : (z : ℤ) → is_redundant (integer_octets z) ≡ false
unfolding integer_octets
integer_octets-not_redundant (pos n) = (positive_of n).shortest
integer_octets-not_redundant (negsuc n) =
    let p = positive_of n in
    is_redundant-complement (positive (digits 256 n)) p.below p.shortest

pub integer_octets-some : (z : ℤ) → 0 < length (integer_octets z)
unfolding integer_octets
integer_octets-some (pos n) = first_octet (positive (digits 256 n)) (positive_of n).first
integer_octets-some (negsuc n) =
    let some = first_octet (positive (digits 256 n)) (positive_of n).first in
    omega (arith, length-map (positive (digits 256 n)) (λ (d : ℕ). 255 - d))

pub integer_octets-below : (z : ℤ) → IsOctets (integer_octets z)
unfolding integer_octets
integer_octets-below (pos n) = (positive_of n).below
integer_octets-below (negsuc n) = complement-below (positive (digits 256 n))

-- The numbers that a type allows

Contains-more : (m n : ℕ) (ns : List ℕ) → Contains ns n → Contains (m ∷ ns) n
Contains-more m n ns h = (suc h.0, omega (arith, h.1), h.2)

-- A number that is found in the list is in it.
pub listed : (n : ℕ) (ns : List ℕ) → list_any (λ m. m == n) ns ≡ true → Contains ns n
listed n [] e = absurd (false≢true e)
listed n (m ∷ ns) e =
    ⊎_elim
    (λ h. (0, omega arith, eqb-true m n h))
    (λ h. Contains-more m n ns (listed n ns h))
    (or_cases (m == n) (list_any (λ m. m == n) ns) e)

test-from_Contains : (n : ℕ) (ns : List ℕ) → Contains ns n → list_any (λ m. m == n) ns ≡ true
test-from_Contains n [] h = absurd (omega (arith, h.1))
test-from_Contains n (m ∷ ns) (zero, l, e) = or_left (m == n) (list_any (λ m. m == n) ns) (eq-eqb m n e)
test-from_Contains n (m ∷ ns) (suc k, l, e) = or_right (m == n) (list_any (λ m. m == n) ns) (test-from_Contains n ns (k, omega arith, e))

pub checked-sound : (r : Numbers) (t : Tag) (z y : ℤ) → checked r t z ≡ Ok y → (z ≡ y) × IsNumber r z
checked-sound every t z y e = (ok_is z y e, tt)
checked-sound natural t (pos n) y e = (ok_is (pos n) y e, tt)
checked-sound (unsigned k) t (pos n) y e = grind (arith, nat_tests)
checked-sound (signed k) t (pos n) y e = grind (arith, nat_tests)
checked-sound (signed k) t (negsuc n) y e = grind (arith, nat_tests)
checked-sound (among ns) t (pos n) y e =
    let parts = if_ok (list_any (λ m. m == n) ns) (kinds.Value t) (fine (pos n)) y e in
    (ok_is (pos n) y parts.1, listed n ns parts.0)
checked-sound (within k) t z y e = grind (arith, nat_tests)
checked-sound _ t z y e = absurd cc

pub checked-again : (r : Numbers) (t : Tag) (z : ℤ) → IsNumber r z → checked r t z ≡ Ok z
checked-again every t z h = refl
checked-again natural t (pos n) h = refl
checked-again (unsigned k) t (pos n) h = grind (arith, nat_tests)
checked-again (signed k) t (pos n) h = grind (arith, nat_tests)
checked-again (signed k) t (negsuc n) h = grind (arith, nat_tests)
checked-again (among ns) t (pos n) h = grind (arith, nat_tests, test-from_Contains n ns h)
checked-again (within k) t z h = grind (arith, nat_tests)
checked-again _ t z h = absurd h

-- Decoding

shortest_integer-sound : (t : Tag) (w : List ℕ) (z : ℤ) → IsBytes w → shortest_integer t w ≡ Ok z → w ≡ integer_octets z
unfolding shortest_integer
shortest_integer-sound t [] z h e = absurd cc
shortest_integer-sound t (d ∷ ds) z h e =
    sym (integer_octets-of (d ∷ ds) h (omega arith) (grind (arith, nat_tests))) ∙ ap integer_octets (grind (arith, nat_tests))

shortest_integer-again : (t : Tag) (w : List ℕ) → 0 < length w → is_redundant w ≡ false → shortest_integer t w ≡ Ok (integer_of w)
unfolding shortest_integer
shortest_integer-again t [] some e = absurd (omega arith)
shortest_integer-again t (d ∷ ds) some e = cond-false (is_redundant (d ∷ ds)) (Err (kinds.Noncanonical t)) (fine (integer_of (d ∷ ds))) e

pub integer_sound : (r : Numbers) (t : Tag) (w : List ℕ) (z : ℤ) → IsBytes w → integer_read r t w ≡ Ok z → IsNumber r z × (w ≡ integer_octets z)
integer_sound r t w z h e =
    let parts = bind_ok (shortest_integer t w) (checked r t) z e in
    let number = checked-sound r t parts.0 z parts.2 in
    let same : parts.0 ≡ z = number.0 in
    (subst (IsNumber r) same number.1, shortest_integer-sound t w parts.0 h parts.1 ∙ ap integer_octets same)

pub integer_again : (r : Numbers) (t : Tag) (z : ℤ) → IsNumber r z → integer_read r t (integer_octets z) ≡ Ok z
integer_again r t z h =
    ap (λ x. x >>= checked r t) (shortest_integer-again t (integer_octets z) (integer_octets-some z) (integer_octets-not_redundant z))
    ∙ ap (checked r t) (integer_of-octets z) ∙ checked-again r t z h

-- The content of a set of named bits decodes to it, and no two sets have the same content

-- Reversed bits

turned-turned : (o : ℕ) → o < 256 → reverse_bits w8 (reverse_bits w8 o) ≡ o
unfolding reverse_bits_onto
turned-turned o l = eqb-true (reverse_bits w8 (reverse_bits w8 o)) o (agree_below_at (λ o. reverse_bits w8 (reverse_bits w8 o) == o) (λ _. true) 256 o refl l)

turned-below : (o : ℕ) → o < 256 → reverse_bits w8 o < 256
unfolding reverse_bits_onto
turned-below o l = ltb-true (reverse_bits w8 o) 256 (agree_below_at (λ o. nat_lt (reverse_bits w8 o) 256) (λ _. true) 256 o refl l)

turned-pos : (o : ℕ) → o < 256 → 0 < o → 0 < reverse_bits w8 o
unfolding reverse_bits_onto
turned-pos o l some = grind (arith, turned-turned o l)

abbrev turned : List ℕ → List ℕ
turned w = map (reverse_bits w8) w

all-turned-turned : (w : List ℕ) → IsOctets w → turned (turned w) ≡ w
all-turned-turned [] h = refl
all-turned-turned (o ∷ w) h = cc (turned-turned o h.0, all-turned-turned w h.1)

all-turned-below : (w : List ℕ) → IsOctets w → IsOctets (turned w)
all-turned-below [] h = tt
all-turned-below (o ∷ w) h = (turned-below o h.0, all-turned-below w h.1)

-- The first and the last byte

reverse-below : (w : List ℕ) → IsOctets w → IsOctets (reverse w)
reverse-below w h = onto w [] h tt
  where
    onto : (v u : List ℕ) → IsOctets v → IsOctets u → IsOctets (reverse_aux v u)
    onto [] u p q = q
    onto (o ∷ v) u p q = onto v (o ∷ u) p.1 (p.0, q)

first-reverse : (w : List ℕ) → get_or (reverse w) 0 0 ≡ last_octet w
first-reverse [] = refl
first-reverse (o ∷ w) = onto w o []
  where
    onto : (w : List ℕ) (o : ℕ) (u : List ℕ) → get_or (reverse_aux (o ∷ w) u) 0 0 ≡ last_octet (o ∷ w)
    onto [] o u = refl
    onto (p ∷ w) o u = onto w p (o ∷ u)

last-reverse : (w : List ℕ) → last_octet (reverse w) ≡ get_or w 0 0
last-reverse w = sym (first-reverse (reverse w)) ∙ ap (λ x. get_or x 0 0) (reverse-reverse w)

last-turned : (w : List ℕ) → last_octet (turned w) ≡ reverse_bits w8 (last_octet w)
unfolding reverse_bits_onto
last-turned [] = refl
last-turned (o ∷ []) = refl
last-turned (o ∷ p ∷ w) = last-turned (p ∷ w)

last-below : (w : List ℕ) → IsOctets w → last_octet w < 256
last-below [] h = omega arith
last-below (o ∷ []) h = h.0
last-below (o ∷ p ∷ w) h = last-below (p ∷ w) h.1

-- A set and its bytes

pub set_octets-zero : set_octets 0 ≡ []
unfolding set_octets
set_octets-zero = refl

set_octets-pos : (n : ℕ) → 0 < n → set_octets n ≡ turned (reverse (digits 256 n))
unfolding set_octets
set_octets-pos n some = cond-false (n == 0) [] (turned (reverse (digits 256 n))) (ne_eqb n 0 (λ e. omega arith))

digits-octets : (n : ℕ) → IsOctets (reverse (digits 256 n))
digits-octets n = reverse-below (digits 256 n) (digits-Digits 256 n (omega arith)).below

spelled_set-digits : (w : List ℕ) → spelled_set w ≡ number_from_digits 256 (reverse (turned w))
unfolding spelled_set
spelled_set-digits [] = refl
spelled_set-digits (b ∷ w) =
    ap (λ n. n * 256 + reverse_bits w8 b) (spelled_set-digits w)
    ∙ sym (ap (number_from_digits 256) (reverse-append (reverse_bits w8 b ∷ []) (turned w)) ∙ number_push 256 (reverse (turned w)) (reverse_bits w8 b))

pub spelled_set-octets : (n : ℕ) → spelled_set (set_octets n) ≡ n
spelled_set-octets n = by (cases_eq n 0)
  where
    by : (n ≡ 0) ⊎ (n ≡ 0 → ⊥) → spelled_set (set_octets n) ≡ n
    by (inl e) = spelled_set-digits (set_octets n) ∙ ap (λ w. number_from_digits 256 (reverse (turned w))) (ap set_octets e ∙ set_octets-zero) ∙ sym e
    by (inr some) =
        spelled_set-digits (set_octets n)
        ∙ ap (λ w. number_from_digits 256 (reverse (turned w))) (set_octets-pos n (omega arith))
        ∙ ap (λ w. number_from_digits 256 (reverse w)) (all-turned-turned (reverse (digits 256 n)) (digits-octets n))
        ∙ ap (number_from_digits 256) (reverse-reverse (digits 256 n))
        ∙ (digits-Digits 256 n (omega arith)).number

-- The names from the ninth on are those of the bytes after the first one.
pub set_octets-step : (n : ℕ) → 0 < n → set_octets n ≡ reverse_bits w8 (n % 256) ∷ set_octets (n / 256)
set_octets-step n some = set_octets-pos n some ∙ by (cases_lt n 256)
  where
    by : (n < 256) ⊎ (256 ≤ n) → turned (reverse (digits 256 n)) ≡ reverse_bits w8 (n % 256) ∷ set_octets (n / 256)
    by (inl l) =
        let same : n ≡ n % 256 = omega arith in
        let none : 0 ≡ n / 256 = omega arith in
        ap (λ w. turned (reverse w)) (digits-one 256 n l)
        ∙ ap (λ m. reverse_bits w8 m ∷ []) same
        ∙ ap (λ w. reverse_bits w8 (n % 256) ∷ w) (sym set_octets-zero ∙ ap set_octets none)
    by (inr l) =
        ap turned (ap reverse (digits-more 256 n (omega arith) l) ∙ reverse-append (digits 256 (n / 256)) (n % 256 ∷ []))
        ∙ ap (λ w. reverse_bits w8 (n % 256) ∷ w) (sym (set_octets-pos (n / 256) (quotient_pos 256 n (omega arith) l)))

pub set_octets-below : (n : ℕ) → IsOctets (set_octets n)
unfolding set_octets
set_octets-below zero = tt
set_octets-below (suc k) = subst IsOctets (sym (set_octets-pos (suc k) (omega arith))) (all-turned-below (reverse (digits 256 (suc k))) (digits-octets (suc k)))

last-set_octets : (n : ℕ) → 0 < n → 0 < last_octet (set_octets n)
last-set_octets n some =
    let ds = digits 256 n in
    let below = last-below (reverse ds) (digits-octets n) in
    let first : last_octet (reverse ds) ≡ get_or ds 0 0 = last-reverse ds in
    let large = first_of_digits-pos 256 n (omega arith) some in
    let e : last_octet (set_octets n) ≡ reverse_bits w8 (last_octet (reverse ds)) = ap last_octet (set_octets-pos n some) ∙ last-turned (reverse ds) in
    let turned_large = turned-pos (last_octet (reverse ds)) below (omega arith) in
    rw e turned_large

-- Bytes whose last one isn't zero are those of their set.
set_octets-of : (w : List ℕ) → IsOctets w → 0 < last_octet w → set_octets (spelled_set w) ≡ w
set_octets-of w h some =
    let ds = reverse (turned w) in
    let below : IsOctets ds = reverse-below (turned w) (all-turned-below w h) in
    let first : get_or ds 0 0 ≡ reverse_bits w8 (last_octet w) = first-reverse (turned w) ∙ last-turned w in
    let large = turned-pos (last_octet w) (last-below w h) some in
    let back : digits 256 (number_from_digits 256 ds) ≡ ds = digits-number_from_digits 256 ds (omega arith) below (inr (omega arith)) in
    ap set_octets (spelled_set-digits w)
    ∙ set_octets-pos (number_from_digits 256 ds) (positive ds (omega arith) back)
    ∙ ap (λ x. turned (reverse x)) back
    ∙ ap turned (reverse-reverse (turned w))
    ∙ all-turned-turned w h
  where
    positive : (ds : List ℕ) → 0 < get_or ds 0 0 → digits 256 (number_from_digits 256 ds) ≡ ds → 0 < number_from_digits 256 ds
    positive ds large back = grind (arith, digits-one 256 0)

-- Contents

ends_in_one-from : (w : List ℕ) → 0 < last_octet w → ends_in_one (unused_bits w) w ≡ true
ends_in_one-from [] some = absurd (omega arith)
ends_in_one-from (b ∷ w) some = grind (arith, nat_tests)

unused_bits-below : (w : List ℕ) → IsOctets w → 0 < last_octet w → unused_bits w < 8
unused_bits-below [] h some = omega arith
unused_bits-below (b ∷ w) h some = (bit_at-trailing_zeros w8 (last_octet (b ∷ w)) some (last-below (b ∷ w) h)).0

named_octets-of : (unused : ℕ) (w : List ℕ) → IsOctets w → ends_in_one unused w ≡ true → unused ∷ w ≡ named_octets (spelled_set w)
unfolding named_octets spelled_set set_octets
named_octets-of unused [] h e = ap (λ u. u ∷ []) (eqb-true unused 0 e)
named_octets-of unused (b ∷ w) h e =
    let same : unused ≡ unused_bits (b ∷ w) = grind (arith, nat_tests) in
    let back = set_octets-of (b ∷ w) h (grind (arith, nat_tests)) in
    ap (λ u. u ∷ b ∷ w) same ∙ ap (λ x. unused_bits x ∷ x) (sym back)

pub named_sound : (names : ℕ) (t : Tag) (w : List ℕ) (n : ℕ) → IsBytes w → named_read names t w ≡ Ok n → IsNamed names n × (w ≡ named_octets n)
unfolding named_read
named_sound names t [] n h e = absurd cc
named_sound names t (unused ∷ w) n h e =
    let same : spelled_set w ≡ n = grind (arith, nat_tests) in
    (grind (arith, nat_tests), named_octets-of unused w (octets_are w (bytes_tail unused w h)) (grind (arith, nat_tests)) ∙ ap named_octets same)

pub named_again : (names : ℕ) (t : Tag) (n : ℕ) → IsNamed names n → named_read names t (named_octets n) ≡ Ok n
unfolding named_read named_octets
named_again names t n h =
    let w = set_octets n in
    let same : spelled_set w ≡ n = spelled_set-octets n in
    let test : ends_in_one (unused_bits w) w ≡ true = grind (arith, ap (λ w. ends_in_one (unused_bits w) w) set_octets-zero, ends_in_one-from (set_octets n), last-set_octets n) in
    grind (arith, nat_tests, same, test)

pub named_below : (n : ℕ) → IsOctets (named_octets n)
unfolding named_octets
named_below n = (grind (arith, ap unused_bits set_octets-zero, unused_bits-below (set_octets n) (set_octets-below n), last-set_octets n), set_octets-below n)
