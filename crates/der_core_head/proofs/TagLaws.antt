-- Lemmas about tags: their encodings, their numbers, and equal tags.
use Rattle.std.proofs.lemmas.Bool.Decides.{nat_tests}
use Rattle.std.proofs.Common.{◌≡◌, ℕ, ◌+◌, ◌*◌, ◌/◌, ◌%◌, ◌<◌, ◌≤◌, Bool, true, false, cond, ltb, eqb, List, [], ◌∷◌, ◌++◌, length, get_or, Option, Some, None, Ok, sym, refl, ap, subst, ◌∙◌, arith, ◌⊎◌, inl, inr, find, drop, Err, ◌≢◌}
use Rattle.std.proofs.lemmas.Bool.{cases_lt, cases_eq, lt-ltb, le-ltb, eq-eqb, ne_eqb, eqb-true, and_parts, and_from}
use Rattle.std.specs.Int.Digits.{number_from_digits_after, AllBelowBase}
use Rattle.std.proofs.lemmas.Int.Digits.{number_after_ge}
use Rattle.const_oid.specs.Digits.{digits, marked}
use Rattle.const_oid.proofs.DigitLaws.{Digits, digits-Digits, first_of_digits-pos, digits-number_from_digits, marked_below, digits-one, digits-more}
use Rattle.der_core_head.specs.declared.tag.Tag.{Tag}
use Rattle.der_core_head.specs.declared.tag.Tag.TheVariants as tags
use Rattle.der_core_head.specs.Octets.{◌>>=◌, IsOctets}
use Rattle.der_core_head.specs.Tags.{leading, low_bits, leading_octet, number_of, number_octets, tag_octets, IsTag, same_tag, universal_tags, universal_tag, class_tag, known_tag, tag_at, digits_at, number_at}
use Rattle.der_core_head.proofs.Results.{fine, ok_is, bind_ok, IsBytes, bytes_tail}
use Rattle.std.proofs.lemmas.List.{drop_all, drop_more}
use Rattle.der_core_head.specs.declared.error.ErrorKind.TheVariants as kinds

-- The encoding of a tag decodes to it, and a decoded tag is the encoding of the result (X.690
-- 8.1.2)

-- The parts of a first byte

low-lt : (n : ℕ) → low_bits n < 32
low-lt n = grind (arith, nat_tests)

-- The class, the bit of the constructed form, and the five bits of the number.
record Parts (k : ℕ) (c : Bool) (n octet : ℕ) : Type 0 where
  pub class : octet / 64 ≡ k
  pub constructed : eqb ((octet / 32) % 2) 1 ≡ c
  pub low : octet % 32 ≡ n

leading-Parts : (class : ℕ) (c : Bool) (low : ℕ) → low < 32 → Parts class c low (leading class c low)
leading-Parts class true low l = record { class = omega arith; constructed = eq-eqb _ 1 (omega arith); low = omega arith }
leading-Parts class false low l = record { class = omega arith; constructed = ne_eqb _ 1 (λ e. omega arith); low = omega arith }

-- The first byte is determined by its parts.
leading-from_parts : (octet : ℕ) → leading (octet / 64) (eqb ((octet / 32) % 2) 1) (octet % 32) ≡ octet
leading-from_parts octet = grind (arith, nat_tests)

-- Tags of a class

leading-class_tag : (class : ℕ) (c : Bool) (n : ℕ) → 0 < class → class < 4 → leading_octet (class_tag class c n) ≡ leading class c (low_bits n)
leading-class_tag class c n p q = grind (arith, nat_tests)

number-class_tag : (class : ℕ) (c : Bool) (n : ℕ) → number_of (class_tag class c n) ≡ n
number-class_tag class c n = grind (arith, nat_tests)

-- Numbers after the first byte

-- Marked digits decode to the value that they have after digits of value `m`.
digits_again : (m : ℕ) (ds r : List ℕ) → AllBelowBase 128 ds → 0 < length ds → number_from_digits_after 128 m ds < 4294967296
    → digits_at m (marked ds ++ r) ≡ Ok (number_from_digits_after 128 m ds, r)
unfolding digits_at marked
digits_again m [] r all l h = absurd (omega arith)
digits_again m (d ∷ []) r all l h =
    let below : d < 128 = all.0 in
    let same : 128 * m + d ≡ m * 128 + d = omega arith in
    rw (lt-ltb (128 * m + d % 128) 4294967296 (omega arith), lt-ltb d 128 below, same) refl
digits_again m (d ∷ e ∷ ds) r all l h =
    let below : d < 128 = all.0 in
    let same : 128 * m + (128 + d) % 128 ≡ m * 128 + d = omega arith in
    let fits : m * 128 + d < 4294967296 = omega (arith, number_after_ge 128 (m * 128 + d) (e ∷ ds) (omega arith)) in
    rw (same, lt-ltb (m * 128 + d) 4294967296 fits, le-ltb (128 + d) 128 (omega arith)) (digits_again (m * 128 + d) (e ∷ ds) r all.1 (omega arith) h)

-- The marked digits of a number of 31 or more decode to it.
pub number_again : (n : ℕ) (r : List ℕ) → 31 ≤ n → n < 4294967296 → number_at (marked (digits 128 n) ++ r) ≡ Ok (n, r)
unfolding number_at marked
number_again n r large l = go (digits 128 n) (digits-Digits 128 n (omega arith)) (first_of_digits-pos 128 n (omega arith) (omega arith))
  where
    go : (ds : List ℕ) → Digits 128 n ds → 0 < get_or ds 0 0 → number_at (marked ds ++ r) ≡ Ok (n, r)
    go [] d h = absurd (omega arith)
    go (a ∷ []) d h =
        let below : a < 128 = d.below.0 in
        rw (ne_eqb a 128 (λ e. omega arith), digits_again 0 (a ∷ []) r d.below d.some (omega arith), d.number, le-ltb n 31 large) refl
    go (a ∷ b ∷ ds) d h =
        rw (ne_eqb (128 + a) 128 (λ e. omega arith), digits_again 0 (a ∷ b ∷ ds) r d.below d.some (omega arith), d.number, le-ltb n 31 large) refl

-- `ds` are the digits that were decoded after digits of value `m`.
record Read (m : ℕ) (w : List ℕ) (n : ℕ) (r ds : List ℕ) : Type 0 where
  pub below : AllBelowBase 128 ds
  pub some : 0 < length ds
  pub octets : w ≡ marked ds ++ r
  pub number : number_from_digits_after 128 m ds ≡ n
  pub fits : n < 4294967296

digits_sound : (m : ℕ) (w : List ℕ) (n : ℕ) (r : List ℕ) → IsBytes w → digits_at m w ≡ Ok (n, r) → (ds : List ℕ) × Read m w n r ds
unfolding digits_at marked
digits_sound m [] n r bytes e = absurd cc
digits_sound m (d ∷ w) n r bytes e =
    elim (cases_lt d 128) [
      | inl small ↦
          let fits : 128 * m + d % 128 < 4294967296 = grind (arith, nat_tests) in
          let same = ok_is {A = ℕ × List ℕ} (128 * m + d, w) (n, r) (grind (arith, nat_tests)) in
          let number : 128 * m + d ≡ n = ap (λ (q : ℕ × List ℕ). q.0) same in
          let rest : w ≡ r = ap (λ (q : ℕ × List ℕ). q.1) same in
          (d ∷ [], record { below = (small, tt); some = omega arith; octets = ap (λ (q : List ℕ). d ∷ q) rest; number = omega arith; fits = omega arith })
      | inr large ↦
          let i = digits_sound (128 * m + d % 128) w n r (bytes_tail d w bytes) (grind (arith, nat_tests)) in
          (d % 128 ∷ i.0, one_more i.0 i.1 large (bytes 0))
    ]
  where
    one_more : (ds : List ℕ) → Read (128 * m + d % 128) w n r ds → 128 ≤ d → d < 256 → Read m (d ∷ w) n r (d % 128 ∷ ds)
    one_more [] i large octet = absurd (omega (arith, i.some))
    one_more (c ∷ ds) i large octet =
        let marks : d ≡ 128 + d % 128 = omega arith in
        let before : m * 128 + d % 128 ≡ 128 * m + d % 128 = omega arith in
        record {
          below = (omega arith, i.below);
          some = omega arith;
          octets = ap (λ (q : List ℕ). d ∷ q) i.octets ∙ ap (λ x. x ∷ (marked (c ∷ ds) ++ r)) marks;
          number = ap (λ x. number_from_digits_after 128 x (c ∷ ds)) before ∙ i.number;
          fits = i.fits;
        }

-- A decoded number is its marked digits, followed by the remaining bytes.
pub number_sound : (w : List ℕ) (n : ℕ) (r : List ℕ) → IsBytes w → number_at w ≡ Ok (n, r)
    → (w ≡ marked (digits 128 n) ++ r) × (31 ≤ n) × (n < 4294967296)
unfolding number_at marked
number_sound [] n r bytes e = absurd cc
number_sound (d ∷ w) n r bytes e =
    let i = digits_sound 0 (d ∷ w) n r bytes (grind (arith, nat_tests)) in
    let large : 31 ≤ n = grind (arith, nat_tests) in
    let some : eqb d 128 ≡ false = grind (arith, nat_tests) in
    let ds : digits 128 n ≡ i.0 = ap (digits 128) (sym i.1.number) ∙ digits-number_from_digits 128 i.0 (omega arith) i.1.below (no_zero i.0 i.1 some) in
    (i.1.octets ∙ ap (λ (q : List ℕ). marked q ++ r) (sym ds), large, i.1.fits)
  where
    no_zero : (ds : List ℕ) → Read 0 (d ∷ w) n r ds → eqb d 128 ≡ false → (length ds ≡ 1) ⊎ (0 < get_or ds 0 0)
    no_zero [] i other = absurd (omega (arith, i.some))
    no_zero (a ∷ []) i other = inl refl
    no_zero (a ∷ b ∷ ds) i other = inr (grind (arith, nat_tests, ap (λ (q : List ℕ). get_or q 0 0) i.octets))

-- Tags

-- A tag that isn't universal, with its number in the first byte or after it.
tag_at-low : (octet class : ℕ) (c : Bool) (n : ℕ) (w : List ℕ) → Parts class c n octet → 64 ≤ octet → n < 31
    → tag_at (octet ∷ w) ≡ Ok (class_tag class c n, w)
unfolding tag_at
tag_at-low octet class c n w parts large l =
    rw (le-ltb octet 64 large, ne_eqb (octet % 32) 31 (λ e. omega arith), parts.class, parts.constructed, parts.low) refl

tag_at-high : (octet class : ℕ) (c : Bool) (n : ℕ) (w r : List ℕ) → Parts class c 31 octet → 64 ≤ octet → number_at w ≡ Ok (n, r)
    → tag_at (octet ∷ w) ≡ Ok (class_tag class c n, r)
unfolding tag_at
tag_at-high octet class c n w r parts large e =
    rw (le-ltb octet 64 large, eq-eqb (octet % 32) 31 parts.low, e, parts.class, parts.constructed) refl

leading-ge : (class : ℕ) (c : Bool) (low : ℕ) → 0 < class → 64 ≤ leading class c low
leading-ge class c low l = grind (arith, nat_tests)

class_again : (class : ℕ) (c : Bool) (n : ℕ) (r : List ℕ) → 0 < class → n < 4294967296
    → tag_at (leading class c (low_bits n) ∷ (number_octets n ++ r)) ≡ Ok (class_tag class c n, r)
class_again class c n r some fits =
    elim (cases_lt n 31) [
      | inl l ↦ rw (lt-ltb n 31 l) (tag_at-low _ class c n r (leading-Parts class c n (omega arith)) (leading-ge class c n some) l)
      | inr l ↦ rw (le-ltb n 31 l) (tag_at-high _ class c n _ r (leading-Parts class c 31 (omega arith)) (leading-ge class c 31 some) (number_again n r l fits))
    ]

-- The encoding of a tag decodes to it, whatever follows it.
pub tag_again : (t : Tag) (r : List ℕ) → IsTag t → tag_at (tag_octets t ++ r) ≡ Ok (t, r)
unfolding tag_octets tag_at universal_tag
tag_again (tags.Application c number) r h = class_again 1 c number.value r (omega arith) h
tag_again (tags.ContextSpecific c number) r h = class_again 2 c number.value r (omega arith) h
tag_again (tags.Private c number) r h = class_again 3 c number.value r (omega arith) h
tag_again t r h = refl

-- A tag whose first byte is below 64 is universal and has only this byte.
below_universal : (t : Tag) → leading_octet t < 64 → (tag_octets t ≡ leading_octet t ∷ []) × IsTag t
unfolding tag_octets
below_universal (tags.Application c number) l = absurd (omega (arith, leading-ge 1 c (low_bits number.value)))
below_universal (tags.ContextSpecific c number) l = absurd (omega (arith, leading-ge 2 c (low_bits number.value)))
below_universal (tags.Private c number) l = absurd (omega (arith, leading-ge 3 c (low_bits number.value)))
below_universal t l = (refl, omega arith)

-- An element that is found passes the test.
find_passes : {X : Type 0} (p : X → Bool) (xs : List X) (x : X) → find p xs ≡ Some x → p x ≡ true
find_passes p [] x e = absurd cc
find_passes p (y ∷ xs) x e = grind (arith, nat_tests, find_passes p xs x)

-- The universal tag of a byte has this byte as its encoding.
universal_sound : (octet : ℕ) (t : Tag) → octet < 64 → universal_tag octet ≡ Some t → (tag_octets t ≡ octet ∷ []) × IsTag t
unfolding universal_tag
universal_sound octet t l e =
    let same : leading_octet t ≡ octet = eqb-true (leading_octet t) octet (find_passes (λ t. eqb (leading_octet t) octet) universal_tags t e) in
    let universal = below_universal t (omega arith) in
    (universal.0 ∙ ap (λ x. x ∷ []) same, universal.1)

-- A tag that is made from a first byte and a number has the encoding that begins with this byte.
class_sound : (octet n : ℕ) (w r : List ℕ) (t : Tag) → 64 ≤ octet → octet < 256 → n < 4294967296 → low_bits n ≡ octet % 32 → w ≡ number_octets n ++ r
    → class_tag (octet / 64) (eqb ((octet / 32) % 2) 1) n ≡ t → (octet ∷ w ≡ tag_octets t ++ r) × IsTag t
unfolding tag_octets
class_sound octet n w r t large small fits low e same =
    let class = octet / 64 in
    let c = eqb ((octet / 32) % 2) 1 in
    let first : leading_octet (class_tag class c n) ≡ octet =
    leading-class_tag class c n (omega arith) (omega arith) ∙ ap (leading class c) low ∙ leading-from_parts octet in
    let octets : octet ∷ w ≡ leading_octet (class_tag class c n) ∷ (number_octets (number_of (class_tag class c n)) ++ r) =
    rw (first, number-class_tag class c n, e) refl in
    let number : number_of (class_tag class c n) < 4294967296 = rw (number-class_tag class c n) fits in
    subst (λ t. (octet ∷ w ≡ tag_octets t ++ r) × IsTag t) same (octets, number)

-- A decoded tag is the encoding of the result, followed by the remaining bytes.
pub tag_sound : (w : List ℕ) (t : Tag) (r : List ℕ) → IsBytes w → tag_at w ≡ Ok (t, r) → (w ≡ tag_octets t ++ r) × IsTag t
unfolding tag_at
tag_sound [] t r bytes e = absurd cc
tag_sound (octet ∷ w) t r bytes e =
    elim (cases_lt octet 64) [
      | inl l ↦ known (universal_tag octet) refl l (grind (arith, nat_tests))
      | inr l ↦ elim (cases_eq (octet % 32) 31) [
        | inl full ↦ high l full (grind (arith, nat_tests))
        | inr other ↦ low l other (grind (arith, nat_tests))
      ]
    ]
  where
    class : ℕ → Tag
    class n = class_tag (octet / 64) (eqb ((octet / 32) % 2) 1) n

    small : octet < 256
    small = bytes 0

    known : (o : Option Tag) → universal_tag octet ≡ o → octet < 64 → known_tag o w ≡ Ok (t, r) → (octet ∷ w ≡ tag_octets t ++ r) × IsTag t
    known None is l e = absurd cc
    known (Some u) is l e =
        let same = ok_is (u, w) (t, r) e in
        let universal = universal_sound octet u l is in
        subst (λ (q : Tag × List ℕ). (octet ∷ w ≡ tag_octets q.0 ++ q.1) × IsTag q.0) same (ap (λ (q : List ℕ). q ++ w) (sym universal.0), universal.1)

    high : 64 ≤ octet → octet % 32 ≡ 31 → ◌>>=◌ {B = Tag × List ℕ} (number_at w) (λ n. Ok (class n.0, n.1)) ≡ Ok (t, r) → (octet ∷ w ≡ tag_octets t ++ r) × IsTag t
    high large bits e =
        let x = bind_ok (number_at w) (λ n. Ok (class n.0, n.1)) (t, r) e in
        let same = ok_is (class x.0.0, x.0.1) (t, r) x.2 in
        let i = number_sound w x.0.0 x.0.1 (bytes_tail octet w bytes) x.1 in
        let full : ltb x.0.0 31 ≡ false = le-ltb x.0.0 31 i.1 in
        let rest : x.0.1 ≡ r = ap (λ (q : Tag × List ℕ). q.1) same in
        class_sound octet x.0.0 w r t large small i.2 (rw full (sym bits)) (rw full (i.0 ∙ ap (λ (q : List ℕ). marked (digits 128 x.0.0) ++ q) rest))
        (ap (λ (q : Tag × List ℕ). q.0) same)

    low : 64 ≤ octet → (octet % 32 ≡ 31 → ⊥) → fine {A = Tag × List ℕ} (class (octet % 32), w) ≡ Ok (t, r) → (octet ∷ w ≡ tag_octets t ++ r) × IsTag t
    low large other e =
        let same = ok_is (class (octet % 32), w) (t, r) e in
        let room : ltb (octet % 32) 31 ≡ true = lt-ltb (octet % 32) 31 (omega arith) in
        let rest : w ≡ r = ap (λ (q : Tag × List ℕ). q.1) same in
        class_sound octet (octet % 32) w r t large small (omega arith) (rw room refl) (rw room rest) (ap (λ (q : Tag × List ℕ). q.0) same)

-- Tags with the same encoding

pub same_tag-refl : (t : Tag) → same_tag t t ≡ true
same_tag-refl t = and_from _ _ (eq-eqb (leading_octet t) (leading_octet t) refl) (eq-eqb (number_of t) (number_of t) refl)

-- The tag with this first byte and this number.
tag_of : ℕ → ℕ → Option Tag
tag_of octet n = cond (ltb octet 64) (universal_tag octet) (Some (class_tag (octet / 64) (eqb ((octet / 32) % 2) 1) n))

tag_of-class : (class : ℕ) (c : Bool) (low n : ℕ) → 0 < class → low < 32 → tag_of (leading class c low) n ≡ Some (class_tag class c n)
unfolding tag_of
tag_of-class class c low n some l =
    let parts = leading-Parts class c low l in
    rw (le-ltb (leading class c low) 64 (leading-ge class c low some), parts.class, parts.constructed) refl

tag_of-same : (t : Tag) → tag_of (leading_octet t) (number_of t) ≡ Some t
unfolding tag_of universal_tag
tag_of-same (tags.Application c number) = tag_of-class 1 c (low_bits number.value) number.value (omega arith) (low-lt number.value)
tag_of-same (tags.ContextSpecific c number) = tag_of-class 2 c (low_bits number.value) number.value (omega arith) (low-lt number.value)
tag_of-same (tags.Private c number) = tag_of-class 3 c (low_bits number.value) number.value (omega arith) (low-lt number.value)
tag_of-same t = refl

pub same_tags : (a b : Tag) → same_tag a b ≡ true → a ≡ b
same_tags a b e =
    let parts = and_parts _ _ e in
    let octet : leading_octet a ≡ leading_octet b = eqb-true (leading_octet a) (leading_octet b) parts.0 in
    let number : number_of a ≡ number_of b = eqb-true (number_of a) (number_of b) parts.1 in
    let same : Some a ≡ Some b = sym (tag_of-same a) ∙ ap (λ o. tag_of o (number_of a)) octet ∙ ap (tag_of (leading_octet b)) number ∙ tag_of-same b in
    cc

-- The bytes of a tag

pub tag_octets-some : (t : Tag) → (b : ℕ) × (w : List ℕ) × (tag_octets t ≡ b ∷ w)
unfolding tag_octets
tag_octets-some t = (leading_octet t, number_octets (number_of t), refl)

leading-lt : (class : ℕ) (c : Bool) (low : ℕ) → class < 4 → low < 32 → leading class c low < 256
leading-lt class c low l m = grind (arith, nat_tests)

number_octets-below : (n : ℕ) → IsOctets (number_octets n)
number_octets-below n = elim (cases_lt n 31) [
  | inl l ↦ rw (lt-ltb n 31 l) tt
  | inr l ↦ rw (le-ltb n 31 l) (marked_below (digits 128 n) (digits-Digits 128 n (omega arith)).below)
]

pub tag_octets-below : (t : Tag) → IsTag t → IsOctets (tag_octets t)
unfolding tag_octets
tag_octets-below (tags.Application c number) h = (leading-lt 1 c _ (omega arith) (low-lt number.value), number_octets-below number.value)
tag_octets-below (tags.ContextSpecific c number) h = (leading-lt 2 c _ (omega arith) (low-lt number.value), number_octets-below number.value)
tag_octets-below (tags.Private c number) h = (leading-lt 3 c _ (omega arith) (low-lt number.value), number_octets-below number.value)
tag_octets-below t h = (omega arith, tt)

-- The forms of a tag, by the size of its number (X.690 8.1.2)

digits-2 : (n : ℕ) → 128 ≤ n → n < 16384 → digits 128 n ≡ n / 128 ∷ n % 128 ∷ []
digits-2 n l h = rw (digits-more 128 n (omega arith) l, digits-one 128 (n / 128) (omega arith)) refl

digits-3 : (n : ℕ) → 16384 ≤ n → n < 2097152 → digits 128 n ≡ n / 16384 ∷ n / 128 % 128 ∷ n % 128 ∷ []
digits-3 n l h =
    let high : n / 128 / 128 ≡ n / 16384 = omega arith in
    rw (digits-more 128 n (omega arith) (omega arith), digits-2 (n / 128) (omega arith) (omega arith), high) refl

digits-4 : (n : ℕ) → 2097152 ≤ n → n < 268435456 → digits 128 n ≡ n / 2097152 ∷ n / 16384 % 128 ∷ n / 128 % 128 ∷ n % 128 ∷ []
digits-4 n l h =
    let high : n / 128 / 16384 ≡ n / 2097152 = omega arith in
    let next : n / 128 / 128 ≡ n / 16384 = omega arith in
    rw (digits-more 128 n (omega arith) (omega arith), digits-3 (n / 128) (omega arith) (omega arith), high, next) refl

digits-5 : (n : ℕ) → 268435456 ≤ n → n < 4294967296 → digits 128 n ≡ n / 268435456 ∷ n / 2097152 % 128 ∷ n / 16384 % 128 ∷ n / 128 % 128 ∷ n % 128 ∷ []
digits-5 n l h =
    let high : n / 128 / 2097152 ≡ n / 268435456 = omega arith in
    let third : n / 128 / 16384 ≡ n / 2097152 = omega arith in
    let next : n / 128 / 128 ≡ n / 16384 = omega arith in
    rw (digits-more 128 n (omega arith) (omega arith), digits-4 (n / 128) (omega arith) (omega arith), high, third, next) refl

pub tag-0 : (t : Tag) → number_of t < 31 → tag_octets t ≡ leading_octet t ∷ []
unfolding tag_octets
tag-0 t l = rw (lt-ltb (number_of t) 31 l) refl

long : (t : Tag) (ds : List ℕ) → 31 ≤ number_of t → digits 128 (number_of t) ≡ ds → tag_octets t ≡ leading_octet t ∷ marked ds
unfolding tag_octets
long t ds l e = rw (le-ltb (number_of t) 31 l, e) refl

pub tag-1 : (t : Tag) → 31 ≤ number_of t → number_of t < 128 → tag_octets t ≡ leading_octet t ∷ number_of t ∷ []
unfolding marked
tag-1 t l h = long t _ l (digits-one 128 (number_of t) h)

pub tag-2 : (t : Tag) → 128 ≤ number_of t → number_of t < 16384 → tag_octets t ≡ leading_octet t ∷ (128 + number_of t / 128) ∷ number_of t % 128 ∷ []
unfolding marked
tag-2 t l h = long t _ (omega arith) (digits-2 (number_of t) l h)

pub tag-3 : (t : Tag) → 16384 ≤ number_of t → number_of t < 2097152
    → tag_octets t ≡ leading_octet t ∷ (128 + number_of t / 16384) ∷ (128 + number_of t / 128 % 128) ∷ number_of t % 128 ∷ []
unfolding marked
tag-3 t l h = long t _ (omega arith) (digits-3 (number_of t) l h)

pub tag-4 : (t : Tag) → 2097152 ≤ number_of t → number_of t < 268435456
    → tag_octets t ≡ leading_octet t ∷ (128 + number_of t / 2097152) ∷ (128 + number_of t / 16384 % 128) ∷ (128 + number_of t / 128 % 128) ∷ number_of t % 128 ∷ []
unfolding marked
tag-4 t l h = long t _ (omega arith) (digits-4 (number_of t) l h)

pub tag-5 : (t : Tag) → 268435456 ≤ number_of t → number_of t < 4294967296
    → tag_octets t ≡ leading_octet t ∷ (128 + number_of t / 268435456) ∷ (128 + number_of t / 2097152 % 128) ∷ (128 + number_of t / 16384 % 128) ∷ (128 + number_of t / 128 % 128) ∷ number_of t % 128 ∷ []
unfolding marked
tag-5 t l h = long t _ (omega arith) (digits-5 (number_of t) l h)

pub ruleset tag_forms = (tag-0, tag-1, tag-2, tag-3, tag-4, tag-5)

-- The number of a tag, byte by byte

abbrev next : ℕ → ℕ → ℕ
next n d = 128 * n + d % 128

pub number-past : (n i : ℕ) (w : List ℕ) → i < length w → 33554432 ≤ n → digits_at n (drop i w) ≡ Err kinds.TagNumberInvalid
unfolding digits_at
number-past n i w h large = rw (drop_more w i 0 h, le-ltb (next n (get_or w i 0)) 4294967296 (omega arith)) refl

pub number-more : (n i : ℕ) (w : List ℕ) → i < length w → n < 33554432 → 128 ≤ get_or w i 0 → digits_at n (drop i w) ≡ digits_at (next n (get_or w i 0)) (drop (i + 1) w)
unfolding digits_at
number-more n i w h small d = rw (drop_more w i 0 h, lt-ltb (next n (get_or w i 0)) 4294967296 (omega arith), le-ltb (get_or w i 0) 128 d) refl

pub number-last : (n i : ℕ) (w : List ℕ) → i < length w → n < 33554432 → get_or w i 0 < 128 → digits_at n (drop i w) ≡ Ok (next n (get_or w i 0), drop (i + 1) w)
unfolding digits_at
number-last n i w h small d =
    let same : 128 * n + get_or w i 0 ≡ next n (get_or w i 0) = omega arith in
    rw (drop_more w i 0 h, lt-ltb (next n (get_or w i 0)) 4294967296 (omega arith), lt-ltb (get_or w i 0) 128 d, same) refl

pub number-none : (n i : ℕ) (w : List ℕ) → length w ≤ i → digits_at n (drop i w) ≡ Err kinds.Incomplete
unfolding digits_at
number-none n i w h = rw (drop_all i w h) refl

pub ruleset digit_steps = (number-past, number-more, number-last, number-none)

-- Tags with the same encoding are equal

pub other : (a b : Tag) → same_tag a b ≡ false → a ≢ b
other a b differ e = absurd (grind (arith, same_tag-refl a))

pub ruleset tag_equality = (same_tags, other)
