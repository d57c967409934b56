-- Lemmas about lengths and headers: their encodings, how they are decoded, and prefixes that are
-- headers.
use Rattle.std.proofs.lemmas.Bool.Decides.{nat_tests}
use Rattle.std.proofs.Common.{◌≡◌, ℕ, ◌+◌, ◌-◌, ◌*◌, ◌^◌, ◌/◌, ◌%◌, ◌<◌, ◌≤◌, cond, ltb, eqb, List, [], ◌∷◌, ◌++◌, length, get_or, length-append, Ok, Err, refl, ◌∙◌, arith, inr, lt-ltb, le-ltb, ne_eqb, take_at, drop_at, take, drop, sym, ap, subst, append_assoc, inl, take-append-drop, length-take, bytes_eq, Some, None, Result, IfOk}
use Rattle.std.proofs.lemmas.Slice.Eq.{bytes_eq-Decides}
use Rattle.std.proofs.lemmas.Int.Digits.{number_after_ge, number_lt}
use Rattle.std.specs.Int.Digits.{number_from_digits, AllBelowBase}
use Rattle.const_oid.specs.Digits.{digits}
use Rattle.const_oid.proofs.DigitLaws.{digits-one, digits-more, digits-number_from_digits, first_of_digits-pos, digits-Digits, split-same_length}
use Rattle.der_core_head.specs.declared.error.ErrorKind.TheVariants as kinds
use Rattle.der_core_head.specs.declared.tag.Tag.{Tag}
use Rattle.der_core_head.specs.Heads.{length_octets, length_at, shortest, Head, head_octets, tlv, head_at, Fits}
use Rattle.std.proofs.lemmas.Bool.{cases_lt}
use Rattle.std.proofs.Math.Nat.{pow-le-pow_right}
use Rattle.der_core_head.specs.Octets.{◌>>=◌, IsOctets, Readings}
use Rattle.der_core_head.specs.Tags.{IsTag, tag_octets, tag_at}
use Rattle.der_core_head.proofs.Results.{ok_is, bind_ok, if_ok, IsBytes, bytes_rest, bytes_tail, bytes_take, octets_are}
use Rattle.der_core_head.proofs.TagLaws.{tag_again, tag_sound, tag_octets-below}
use Rattle.der_core_head.specs.Limits.{IsLength}
use Rattle.der_core_head.specs.Shapes.{Shape, tagged, any, either, optional, defaulted, nothing, Value, octets_of, unless, IsValid}
use Rattle.der_core_head.specs.declared.error.Error.{Error}
use Rattle.der_core_head.specs.declared.error.ErrorKind.{ErrorKind}
use Rattle.der_core_head.specs.Fronts.{ReadsFront}

-- The forms of a length, by its size (X.690 8.1.3.4, 8.1.3.5, 10.1)

-- The digits of a length

pub digits-2 : (n : ℕ) → 256 ≤ n → n < 2 ^ 16 → digits 256 n ≡ n / 256 ∷ n % 256 ∷ []
digits-2 n l h = rw (digits-more 256 n (omega arith) l, digits-one 256 (n / 256) (omega arith)) refl

pub digits-3 : (n : ℕ) → 2 ^ 16 ≤ n → n < 2 ^ 24 → digits 256 n ≡ n / 65536 ∷ n / 256 % 256 ∷ n % 256 ∷ []
digits-3 n l h =
    let high : n / 256 / 256 ≡ n / 65536 = omega arith in
    rw (digits-more 256 n (omega arith) (omega arith), digits-2 (n / 256) (omega arith) (omega arith), high) refl

pub digits-4 : (n : ℕ) → 2 ^ 24 ≤ n → n < 2 ^ 32 → digits 256 n ≡ n / 16777216 ∷ n / 65536 % 256 ∷ n / 256 % 256 ∷ n % 256 ∷ []
digits-4 n l h =
    let high : n / 256 / 65536 ≡ n / 16777216 = omega arith in
    let next : n / 256 / 256 ≡ n / 65536 = omega arith in
    rw (digits-more 256 n (omega arith) (omega arith), digits-3 (n / 256) (omega arith) (omega arith), high, next) refl

-- The bytes of a length

pub length-short : (n : ℕ) → n < 128 → length_octets n ≡ n ∷ []
unfolding length_octets
length-short n l = rw (lt-ltb n 128 l) refl

pub length-long : (n : ℕ) (ds : List ℕ) → 128 ≤ n → digits 256 n ≡ ds → length_octets n ≡ (128 + length ds) ∷ ds
unfolding length_octets
length-long n ds l e = rw (le-ltb n 128 l) (rw e refl)

pub length-1 : (n : ℕ) → 128 ≤ n → n < 256 → length_octets n ≡ 129 ∷ n ∷ []
length-1 n l h = length-long n _ l (digits-one 256 n h)

pub length-2 : (n : ℕ) → 256 ≤ n → n < 2 ^ 16 → length_octets n ≡ 130 ∷ n / 256 ∷ n % 256 ∷ []
length-2 n l h = length-long n _ (omega arith) (digits-2 n l h)

pub length-3 : (n : ℕ) → 2 ^ 16 ≤ n → n < 2 ^ 24 → length_octets n ≡ 131 ∷ n / 65536 ∷ n / 256 % 256 ∷ n % 256 ∷ []
length-3 n l h = length-long n _ (omega arith) (digits-3 n l h)

pub length-4 : (n : ℕ) → 2 ^ 24 ≤ n → n < 2 ^ 32 → length_octets n ≡ 132 ∷ n / 16777216 ∷ n / 65536 % 256 ∷ n / 256 % 256 ∷ n % 256 ∷ []
length-4 n l h = length-long n _ (omega arith) (digits-4 n l h)

-- The rules that give the form of each length.
pub ruleset length_forms = (length-short, length-1, length-2, length-3, length-4)

-- A length has at most four digits.
pub length-digits-le : (n : ℕ) → n < 2 ^ 32 → length (digits 256 n) ≤ 4
length-digits-le n h = grind (arith, nat_tests, digits-one 256 n, digits-2 n, digits-3 n, digits-4 n)

-- The values of digits

pub number-1 : (a : ℕ) → number_from_digits 256 (a ∷ []) ≡ a
number-1 a = omega arith

-- The decoded lengths

-- Digits in the shortest form of their value are accepted.
pub shortest-ok : (t : Tag) (first : ℕ) (ds w : List ℕ) → length_octets (number_from_digits 256 ds) ≡ first ∷ ds
    → shortest t first ds w ≡ Ok (number_from_digits 256 ds, w)
shortest-ok t first ds w e = rw ((bytes_eq-Decides (length_octets (number_from_digits 256 ds)) (first ∷ ds)).1 e) refl

-- Other digits are rejected.
pub shortest-err : (t : Tag) (first : ℕ) (ds w : List ℕ) → (length_octets (number_from_digits 256 ds) ≡ first ∷ ds → ⊥)
    → shortest t first ds w ≡ Err (kinds.Length t)
shortest-err t first ds w other = grind (arith, nat_tests, bytes_eq-Decides (length_octets (number_from_digits 256 ds)) (first ∷ ds))

from_digits-ge : (ds : List ℕ) → 2 ≤ length ds → 0 < get_or ds 0 0 → 256 ≤ number_from_digits 256 ds
from_digits-ge (a ∷ b ∷ ds) l h = omega (arith, number_after_ge 256 ((0 * 256 + a) * 256 + b) ds (omega arith))
from_digits-ge _ l h = absurd (omega arith)

-- Two or more digits are in the shortest form exactly if the first isn't zero.
length_octets-from_digits : (ds : List ℕ) → AllBelowBase 256 ds → 2 ≤ length ds → 0 < get_or ds 0 0
    → length_octets (number_from_digits 256 ds) ≡ (128 + length ds) ∷ ds
length_octets-from_digits ds all l h =
    length-long (number_from_digits 256 ds) ds (omega (arith, from_digits-ge ds l h)) (digits-number_from_digits 256 ds (omega arith) all (inr h))

no_leading_zero : (n : ℕ) (ds : List ℕ) → 2 ≤ length ds → get_or ds 0 0 ≡ 0 → length_octets n ≡ (128 + length ds) ∷ ds → ⊥
no_leading_zero n ds l z e = grind (arith, length-short n, length-long n (digits 256 n), first_of_digits-pos 256 n)

-- A length below 128, and the first bytes that no length has.
pub length_at-short : (t : Tag) (n : ℕ) (w : List ℕ) → n < 128 → length_at t (n ∷ w) ≡ Ok (n, w)
unfolding length_at
length_at-short t n w l = rw (lt-ltb n 128 l) refl

pub length_at-none : (t : Tag) → length_at t [] ≡ Err kinds.Incomplete
unfolding length_at
length_at-none t = refl

pub length_at-indefinite : (t : Tag) (w : List ℕ) → length_at t (128 ∷ w) ≡ Err kinds.IndefiniteLength
unfolding length_at
length_at-indefinite t w = refl

pub length_at-large : (t : Tag) (n : ℕ) (w : List ℕ) → 132 < n → length_at t (n ∷ w) ≡ Err kinds.Overlength
unfolding length_at
length_at-large t n w l = rw (le-ltb n 128 (omega arith), ne_eqb n 128 (λ e. omega arith), lt-ltb 132 n l) refl

-- The bytes end before the last digit.
pub length_at-cut : (t : Tag) (n : ℕ) (w : List ℕ) → 128 < n → n ≤ 132 → length w < n - 128 → length_at t (n ∷ w) ≡ Err kinds.Incomplete
unfolding length_at
length_at-cut t n w l m h =
    rw (le-ltb n 128 (omega arith), ne_eqb n 128 (λ e. omega arith), le-ltb 132 n m, lt-ltb (length w) (n - 128) h) refl

-- A length of one to four digits, all of which are there.
pub length_at-digits : (t : Tag) (ds w : List ℕ) → 0 < length ds → length ds ≤ 4
    → length_at t ((128 + length ds) ∷ (ds ++ w)) ≡ shortest t (128 + length ds) ds w
unfolding length_at
length_at-digits t ds w l h =
    let count : 128 + length ds - 128 ≡ length ds = omega arith in
    grind (arith, nat_tests, count, length-append ds w, take_at ds w (length ds) refl, drop_at ds w (length ds) refl)

pub length_at-1 : (t : Tag) (a : ℕ) (w : List ℕ) → a < 256 → length_at t (129 ∷ a ∷ w) ≡ cond (ltb a 128) (Err (kinds.Length t)) (Ok (a, w))
length_at-1 t a w l = length_at-digits t (a ∷ []) w (omega arith) (omega arith) ∙ grind (arith, nat_tests, number-1 a, length-short a, length-1 a, shortest-ok t 129 (a ∷ []) w, shortest-err t 129 (a ∷ []) w)

-- Two or more digits are accepted if the first isn't zero.
length_at-more : (t : Tag) (a : ℕ) (ds w : List ℕ) (n : ℕ) → AllBelowBase 256 (a ∷ ds) → 0 < length ds → length ds < 4
    → number_from_digits 256 (a ∷ ds) ≡ n
    → length_at t ((129 + length ds) ∷ a ∷ (ds ++ w)) ≡ cond (eqb a 0) (Err (kinds.Length t)) (Ok (n, w))
length_at-more t a ds w n all l m e =
    let first : 129 + length ds ≡ 128 + length (a ∷ ds) = omega arith in
    rw first (length_at-digits t (a ∷ ds) w (omega arith) (omega arith)
    ∙ grind (arith, nat_tests, shortest-ok t (128 + length (a ∷ ds)) (a ∷ ds) w, length_octets-from_digits (a ∷ ds) all, shortest-err t (128 + length (a ∷ ds)) (a ∷ ds) w, no_leading_zero n (a ∷ ds)))

pub length_at-2 : (t : Tag) (a b : ℕ) (w : List ℕ) → a < 256 → b < 256
    → length_at t (130 ∷ a ∷ b ∷ w) ≡ cond (eqb a 0) (Err (kinds.Length t)) (Ok (a * 256 + b, w))
length_at-2 t a b w p q = length_at-more t a (b ∷ []) w _ (p, (q, tt)) (omega arith) (omega arith) (omega arith)

pub length_at-3 : (t : Tag) (a b c : ℕ) (w : List ℕ) → a < 256 → b < 256 → c < 256
    → length_at t (131 ∷ a ∷ b ∷ c ∷ w) ≡ cond (eqb a 0) (Err (kinds.Length t)) (Ok (a * 65536 + b * 256 + c, w))
length_at-3 t a b c w p q r = length_at-more t a (b ∷ c ∷ []) w _ (p, (q, (r, tt))) (omega arith) (omega arith) (omega arith)

pub length_at-4 : (t : Tag) (a b c d : ℕ) (w : List ℕ) → a < 256 → b < 256 → c < 256 → d < 256
    → length_at t (132 ∷ a ∷ b ∷ c ∷ d ∷ w) ≡ cond (eqb a 0) (Err (kinds.Length t)) (Ok (a * 16777216 + b * 65536 + c * 256 + d, w))
length_at-4 t a b c d w p q r s =
    length_at-more t a (b ∷ c ∷ d ∷ []) w _ (p, (q, (r, (s, tt)))) (omega arith) (omega arith) (omega arith)

-- Encodings of lengths and headers decode to them, and no encoding is a prefix of another (X.690
-- 8.1.3, 10.1)

-- Lengths

-- The encoding of a length decodes to it, whatever follows it.
pub length_again : (t : Tag) (n : ℕ) (r : List ℕ) → IsLength n → length_at t (length_octets n ++ r) ≡ Ok (n, r)
unfolding length_at
length_again t n r h = elim (cases_lt n 128) [ inl l ↦ rw (length-short n l, lt-ltb n 128 l) refl | inr l ↦ long l ]
  where
    long : 128 ≤ n → length_at t (length_octets n ++ r) ≡ Ok (n, r)
    long l =
        let ds = digits 256 n in
        let is = digits-Digits 256 n (omega arith) in
        let form : length_octets n ≡ (128 + length ds) ∷ ds = length-long n ds l refl in
        rw form
        (length_at-digits t ds r is.some (length-digits-le n h)
        ∙ shortest-ok t (128 + length ds) ds r (ap length_octets is.number ∙ form)
        ∙ ap (λ k. Ok (k, r)) is.number)

-- At most four digits have a value that is a length.
from_digits-lt : (ds : List ℕ) → IsOctets ds → length ds ≤ 4 → IsLength (number_from_digits 256 ds)
from_digits-lt ds all l =
    let most : 256 ^ length ds ≤ 256 ^ 4 = pow-le-pow_right {n = 256} (omega arith) l in
    omega (arith, number_lt 256 ds all)

-- Accepted digits are in the shortest form of their value.
shortest_sound : (t : Tag) (first : ℕ) (ds w : List ℕ) (n : ℕ) (r : List ℕ) → IsOctets ds → length ds ≤ 4 → shortest t first ds w ≡ Ok (n, r)
    → (first ∷ (ds ++ w) ≡ length_octets n ++ r) × IsLength n
shortest_sound t first ds w n r all l e =
    let number = number_from_digits 256 ds in
    let h = if_ok (bytes_eq (length_octets number) (first ∷ ds)) (kinds.Length t) (Ok (number, w)) (n, r) e in
    let form : length_octets number ≡ first ∷ ds = (bytes_eq-Decides (length_octets number) (first ∷ ds)).0 h.0 in
    subst (λ (q : ℕ × List ℕ). (first ∷ (ds ++ w) ≡ length_octets q.0 ++ q.1) × IsLength q.0) (ok_is (number, w) (n, r) h.1)
    (ap (λ (o : List ℕ). o ++ w) (sym form), from_digits-lt ds all l)

-- A decoded length is the encoding of the result, followed by the remaining bytes.
pub length_sound : (t : Tag) (w : List ℕ) (n : ℕ) (r : List ℕ) → IsBytes w → length_at t w ≡ Ok (n, r) → (w ≡ length_octets n ++ r) × IsLength n
unfolding length_at
length_sound t [] n r bytes e = absurd cc
length_sound t (m ∷ w) n r bytes e =
    let k = m - 128 in
    elim (cases_lt m 128) [
      | inl small ↦
          let same : (m, w) ≡ (n, r) = ok_is (m, w) (n, r) (grind (arith, nat_tests)) in
          subst (λ (q : ℕ × List ℕ). (m ∷ w ≡ length_octets q.0 ++ q.1) × IsLength q.0) same
          (ap (λ (o : List ℕ). o ++ w) (sym (length-short m small)), omega arith)
      | inr large ↦
          let few : m ≤ 132 = grind (arith, nat_tests) in
          let read : shortest t m (take k w) (drop k w) ≡ Ok (n, r) = grind (arith, nat_tests) in
          let digits_fit : length (take k w) ≤ 4 = omega (arith, length-take k w) in
          let i = shortest_sound t m (take k w) (drop k w) n r (octets_are (take k w) (bytes_take k w (bytes_tail m w bytes))) digits_fit read in
          (ap (λ (o : List ℕ). m ∷ o) (sym (take-append-drop k w)) ∙ i.0, i.1)
    ]

-- Headers

-- The encoding of a header decodes to it, whatever follows it.
pub head_again : (t : Tag) (n : ℕ) (r : List ℕ) → IsTag t → IsLength n → head_at (head_octets t n ++ r) ≡ Ok (record { tag = t; len = n }, r)
unfolding head_at head_octets
head_again t n r tag fits = rw (append_assoc (tag_octets t) (length_octets n) r, tag_again t (length_octets n ++ r) tag, length_again t n r fits) refl

-- A decoded header is the encoding of the result, followed by the remaining bytes.
pub head_sound : (w : List ℕ) (h : Head) (r : List ℕ) → IsBytes w → head_at w ≡ Ok (h, r)
    → (w ≡ head_octets h.tag h.len ++ r) × IsTag h.tag × IsLength h.len
unfolding head_at head_octets
head_sound w h r bytes e =
    let t = bind_ok (tag_at w) (λ t. length_at t.0 t.1 >>= λ n. Ok (record { tag = t.0; len = n.0 }, n.1)) (h, r) e in
    let n = bind_ok (length_at t.0.0 t.0.1) (λ n. Ok (record { tag = t.0.0; len = n.0 }, n.1)) (h, r) t.2 in
    let made : Head × List ℕ = (record { tag = t.0.0; len = n.0.0 }, n.0.1) in
    let a = tag_sound w t.0.0 t.0.1 bytes t.1 in
    let b = length_sound t.0.0 t.0.1 n.0.0 n.0.1 (bytes_rest (tag_octets t.0.0) t.0.1 w a.0 bytes) n.1 in
    let octets : w ≡ (tag_octets t.0.0 ++ length_octets n.0.0) ++ n.0.1 =
    a.0 ∙ ap (λ (o : List ℕ). tag_octets t.0.0 ++ o) b.0 ∙ sym (append_assoc (tag_octets t.0.0) (length_octets n.0.0) n.0.1) in
    subst (λ (q : Head × List ℕ). (w ≡ (tag_octets q.0.tag ++ length_octets q.0.len) ++ q.1) × IsTag q.0.tag × IsLength q.0.len)
    (ok_is made (h, r) n.2) (octets, a.1, b.1)

-- Bytes are below 256

pub below-append : (a b : List ℕ) → IsOctets a → IsOctets b → IsOctets (a ++ b)
below-append [] b p q = q
below-append (x ∷ a) b p q = (p.0, below-append a b p.1 q)

length_octets-below : (n : ℕ) → IsLength n → IsOctets (length_octets n)
length_octets-below n h = elim (cases_lt n 128) [ inl l ↦ rw (length-short n l) (omega arith, tt) | inr l ↦ long l ]
  where
    long : 128 ≤ n → IsOctets (length_octets n)
    long l = rw (length-long n _ l refl) (omega (arith, length-digits-le n h), (digits-Digits 256 n (omega arith)).below)

pub head_octets-below : (t : Tag) (n : ℕ) → IsTag t → IsLength n → IsOctets (head_octets t n)
unfolding head_octets
head_octets-below t n tag fits = below-append (tag_octets t) (length_octets n) (tag_octets-below t tag) (length_octets-below n fits)

-- Encodings

-- If two encodings with what follows them are equal, so are their tags, their contents and what
-- follows.
pub split-tlv : (a b : Tag) (c d r s : List ℕ) → IsTag a → IsTag b → Fits c → Fits d
    → tlv a c ++ r ≡ tlv b d ++ s → (a ≡ b) × (c ≡ d) × (r ≡ s)
unfolding tlv
split-tlv a b c d r s p q i j e =
    let first : head_octets a (length c) ++ (c ++ r) ≡ head_octets b (length d) ++ (d ++ s) = simp append_assoc at e in
    let heads = ok_is (record { tag = a; len = length c }, c ++ r) (record { tag = b; len = length d }, d ++ s)
    (sym (head_again a (length c) (c ++ r) p i) ∙ ap head_at first ∙ head_again b (length d) (d ++ s) q j) in
    let tags : a ≡ b = ap (λ (x : Head × List ℕ). x.0.tag) heads in
    let lengths : length c ≡ length d = ap (λ (x : Head × List ℕ). x.0.len) heads in
    let contents = split-same_length c d r s lengths (ap (λ (x : Head × List ℕ). x.1) heads) in
    (tags, contents.0, contents.1)

-- Lengths of parts

-- A prefix of bytes whose number is a length has such a number of bytes.
pub fits_front : (u r w : List ℕ) → w ≡ u ++ r → Fits w → Fits u
fits_front u r w e h = omega (arith, ap length e, length-append u r)

pub fits_rest : (u r w : List ℕ) → w ≡ u ++ r → Fits w → Fits r
fits_rest u r w e h = omega (arith, ap length e, length-append u r)

pub fits_contents : (t : Tag) (c : List ℕ) → Fits (tlv t c) → Fits c
unfolding tlv
fits_contents t c h = fits_rest (head_octets t (length c)) c (head_octets t (length c) ++ c) refl h

-- The number of bytes of a valid value is a length.
pub valid_fits : (s : Shape) (v : Value s) → IsValid s v → Fits (octets_of s v)
unfolding octets_of IsValid unless
valid_fits (tagged t c) v h = h.2
valid_fits any v h = h.2
valid_fits (either a b) (inl v) h = valid_fits a v h
valid_fits (either a b) (inr v) h = valid_fits b v h
valid_fits (optional s) None h = omega arith
valid_fits (optional s) (Some v) h = valid_fits s v h
valid_fits nothing v h = omega arith
valid_fits (defaulted s d) v h = grind (arith, nat_tests, valid_fits s v h)

-- Prefixes that are tags

-- The decoded prefix is the one whose length was returned.
pub front_so : {X P : Type 0} (view : X → P) (w : List ℕ) (r : Result (X × ℕ) Error) (f : Readings P) (x : Result (P × List ℕ) ErrorKind) → f w ≡ x → ReadsFront view w r f → ReadsFront view w r (λ _. x)
front_so view w (Ok y) f x e h = (sym e ∙ h.0, h.1)
front_so view w (Err d) f x e h = sym e ∙ h

pub tag_spelled : (w : List ℕ) (r : Result (Tag × ℕ) Error) → IsBytes w → ReadsFront (λ (t : Tag). t) w r tag_at → IfOk r (λ x. IsTag x.0 × (w ≡ tag_octets x.0 ++ drop x.1 w))
tag_spelled w (Ok x) bytes h =
    let s = tag_sound w x.0 (drop x.1 w) bytes h.0 in
    (s.1, s.0)
tag_spelled w (Err e) bytes h = tt

pub ruleset tag_fronts = (tag_spelled, tag_again, front_so)
