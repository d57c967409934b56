-- Lemmas about the order of lists of bytes, and of the encodings of tags, lengths, headers,
-- contents and values.
use Rattle.std.proofs.Common.{◌≡◌, ℕ, ◌<◌, List, [], ◌∷◌, ◌++◌, length, true, false, refl, sym, ap, subst, ◌∙◌, arith, ◌≢◌, Ordering, Equal, append-nil, zero, suc, ◌+◌, ◌*◌, ◌/◌, ◌%◌, ◌≤◌, inl, inr, length-append, mul-le-mul_right, mod-lt, div-add-mod', Ok, Err, Bool, Result, IfOk, lt-ltb, le-ltb}
use Rattle.std.specs.Bool.{⊤}
use Rattle.std.specs.Ordering.{nat_cmp, ordering_then, is_eq, is_ne, MatchOrdering, bool_cmp}
use Rattle.std.specs.Cmp.Lexicographic.{same_text, texts_ties, nat_list_cmp_total}
use Rattle.std.proofs.lemmas.Cmp.{ranked, tied_itself}
use Rattle.std.proofs.lemmas.Bool.Decides.{nat_tests}
use Rattle.der_core.specs.Orders.{octets_cmp, contents_cmp, Overflows}
use Rattle.std.proofs.lemmas.Bool.{cases_lt}
use Rattle.std.specs.Int.Digits.{number_from_digits, number_from_digits_after, AllBelowBase}
use Rattle.der_core_coding.specs.Oid.Digits.{digits, marked}
use Rattle.const_oid.proofs.DigitLaws.{digits-Digits, digits-one, digits-more, halved, split-marked}
pub use Rattle.const_oid.proofs.OrderLaws.{nat_cmp-less, nat_cmp-greater, nat_cmp-same}
use Rattle.der_core_coding.specs.CoreHead.declared.tag.Tag.{Tag}
use Rattle.der_core_coding.specs.CoreHead.declared.tag.Tag.TheVariants as tags
use Rattle.der_core_coding.specs.CoreHead.Tags.{IsTag, leading, low_bits, leading_octet, number_of, number_octets, tag_octets, tag_at}
use Rattle.der_core_coding.specs.CoreHead.Heads.{length_octets, head_octets, tlv}
use Rattle.der_core_head.proofs.Results.{ok_is}
use Rattle.der_core_head.proofs.TagLaws.{tag_again}
use Rattle.der_core_head.proofs.HeadLaws.{length-short, length-long, fits_contents}
use Rattle.der_core_coding.specs.CoreHead.declared.error.Error.{Error}
use Rattle.der_core_coding.specs.CoreHead.declared.error.ErrorKind.{ErrorKind}
use Rattle.der_core_coding.specs.CoreHead.Shapes.{Content, ContentValue, tagged, contents, octets_of, IsValid, IsContent, leaf}
use Rattle.der_core_coding.specs.CoreHead.Writing.{size, size_content}
use Rattle.der_core_head.proofs.Written.{sized_content, content_counted, count_is}
use Rattle.der_core.proofs.Sizes.{content_only, tlv_over, longer}
use Rattle.der_core_coding.specs.CoreHead.Leaves.{Leaf, LeafValue, boolean, null, leaf_contents as octets_of_leaf}

-- The order of lists of bytes and of concatenated lists

-- Orderings

pub then_assoc : (a b c : Ordering) → ordering_then (ordering_then a b) c ≡ ordering_then a (ordering_then b c)
then_assoc a b c = grind (arith, nat_tests)

pub then_equal : (a : Ordering) → ordering_then a Equal ≡ a
then_equal a = grind (arith, nat_tests)

-- The second order matters only if the first is `Equal`.
pub then_same : (a b c : Ordering) → (a ≡ Equal → b ≡ c) → ordering_then a b ≡ ordering_then a c
then_same a b c h = grind (arith, nat_tests)

pub then_first : (a b : Ordering) → a ≢ Equal → ordering_then a b ≡ a
then_first a b h = grind (arith, nat_tests)

-- A first order that decides, and one that doesn't.
pub first_decides : (a b : Ordering) → is_ne a ≡ true → a ≡ ordering_then a b
first_decides a b h = grind (arith, nat_tests)

pub others_decide : (a b : Ordering) → is_ne a ≡ false → b ≡ ordering_then a b
others_decide a b h = grind (arith, nat_tests)

-- Numbers

pub nat_cmp-equal : (m n : ℕ) → nat_cmp m n ≡ Equal → m ≡ n
nat_cmp-equal m n e = subst (λ o. MatchOrdering o (m < n) (m ≡ n) (n < m)) e (ranked m n (nat_cmp m n) refl)

-- Lists

pub octets_cmp-self : (a : List ℕ) → octets_cmp a a ≡ Equal
octets_cmp-self a = tied_itself nat_list_cmp_total a

pub octets_cmp-equal : (a b : List ℕ) → octets_cmp a b ≡ Equal → a ≡ b
octets_cmp-equal a b e = same_text a b (sym (texts_ties a b ∙ ap is_eq e))

-- Neither list is a proper prefix of the other.
abbrev pub Splits : List ℕ → List ℕ → Type 0
Splits [] [] = ⊤
Splits [] (y ∷ b) = ⊥
Splits (x ∷ a) [] = ⊥
Splits (x ∷ a) (y ∷ b) = x ≡ y → Splits a b

-- If neither of two lists is a prefix of the other, they decide before what follows them.
pub octets_cmp-append : (a b r s : List ℕ) → Splits a b → octets_cmp (a ++ r) (b ++ s) ≡ ordering_then (octets_cmp a b) (octets_cmp r s)
octets_cmp-append [] [] r s h = refl
octets_cmp-append (x ∷ a) (y ∷ b) r s h =
    then_same (nat_cmp x y) (octets_cmp (a ++ r) (b ++ s)) (ordering_then (octets_cmp a b) (octets_cmp r s)) (λ e. octets_cmp-append a b r s (h (nat_cmp-equal x y e)))
    ∙ sym (then_assoc (nat_cmp x y) (octets_cmp a b) (octets_cmp r s))
octets_cmp-append a b r s h = absurd h

pub splits_lengths : (a b : List ℕ) → length a ≡ length b → Splits a b
splits_lengths [] [] e = tt
splits_lengths (x ∷ a) (y ∷ b) e = λ _. splits_lengths a b (omega arith)
splits_lengths a b e = absurd (omega arith)

pub splits_append : (a b r s : List ℕ) → Splits a b → (a ≡ b → Splits r s) → Splits (a ++ r) (b ++ s)
splits_append [] [] r s h k = k refl
splits_append (x ∷ a) (y ∷ b) r s h k = λ e. splits_append a b r s (h e) (λ f. k cc)
splits_append a b r s h k = absurd h

-- Neither of two lists is a proper prefix of the other if they are equal whenever they are prefixes
-- of the same list.
pub splits_free : (a b : List ℕ) → ((r s : List ℕ) → a ++ r ≡ b ++ s → a ≡ b) → Splits a b
splits_free [] [] h = tt
splits_free [] (y ∷ b) h = let e : [] ≡ y ∷ b = h (y ∷ b) [] (sym (append-nil (y ∷ b))) in absurd cc
splits_free (x ∷ a) [] h = let e : x ∷ a ≡ [] = h [] (x ∷ a) (append-nil (x ∷ a)) in absurd cc
splits_free (x ∷ a) (y ∷ b) h = λ e. splits_free a b (λ r s f. let k : x ∷ a ≡ y ∷ b = h r s cc in cc)

pub then_both : (a b c d : Ordering) → a ≡ c → b ≡ d → ordering_then a b ≡ ordering_then c d
then_both a b c d p q = ap (λ o. ordering_then o b) p ∙ ap (ordering_then c) q

-- The order of tags, lengths, headers and encodings

-- Appending one digit.
push_cmp : (base m n d e : ℕ) → d < base → e < base → nat_cmp (m * base + d) (n * base + e) ≡ ordering_then (nat_cmp m n) (nat_cmp d e)
push_cmp base m n d e p q = grind (arith, nat_tests, higher m n d e p, higher n m e d q, equal)
  where
    higher : (m n d e : ℕ) → d < base → m < n → m * base + d < n * base + e
    higher m n d e p l =
        let more : suc m * base ≤ n * base = mul-le-mul_right base (omega arith) in
        omega (arith, more)

    equal : m ≡ n → m * base ≡ n * base
    equal same = ap (λ k. k * base) same

-- Numbers are ordered by their digits without the last one, and then by the last digit.
pub split_cmp : (base m n : ℕ) → 0 < base → ordering_then (nat_cmp (m / base) (n / base)) (nat_cmp (m % base) (n % base)) ≡ nat_cmp m n
split_cmp base m n some =
    sym (push_cmp base (m / base) (n / base) (m % base) (n % base) (mod-lt m some) (mod-lt n some))
    ∙ (λ i. nat_cmp (div-add-mod' m base i) (div-add-mod' n base i))

-- Numbers with equally many digits are ordered as their digits are.
pub after_cmp : (m n : ℕ) (ds es : List ℕ) → AllBelowBase 256 ds → AllBelowBase 256 es → length ds ≡ length es
    → ordering_then (nat_cmp m n) (octets_cmp ds es) ≡ nat_cmp (number_from_digits_after 256 m ds) (number_from_digits_after 256 n es)
after_cmp m n [] [] p q l = then_equal (nat_cmp m n)
after_cmp m n (d ∷ ds) (e ∷ es) p q l =
    sym (then_assoc (nat_cmp m n) (nat_cmp d e) (octets_cmp ds es))
    ∙ ap (λ o. ordering_then o (octets_cmp ds es)) (sym (push_cmp 256 m n d e p.0 q.0))
    ∙ after_cmp (m * 256 + d) (n * 256 + e) ds es p.1 q.1 (omega arith)
after_cmp m n ds es p q l = absurd (omega arith)

-- A greater number has no fewer digits.
one_digit : (m n : ℕ) → n < 256 → length (digits 256 n) ≤ length (digits 256 m)
one_digit m n l = omega (arith, ap length (digits-one 256 n l), (digits-Digits 256 m (omega arith)).some)

digits-monotone : (room m n : ℕ) → n ≤ room → n ≤ m → length (digits 256 n) ≤ length (digits 256 m)
digits-monotone zero m n small le = one_digit m n (omega arith)
digits-monotone (suc room) m n small le =
    elim (cases_lt n 256) [
      | inl l ↦ one_digit m n l
      | inr l ↦
          let more = digits-monotone room (m / 256) (n / 256) (halved 256 room n (omega arith) l small) (omega arith) in
          omega (arith, ap length (digits-more 256 n (omega arith) l), ap length (digits-more 256 m (omega arith) (omega arith)), length-append (digits 256 (n / 256)) (n % 256 ∷ []), length-append (digits 256 (m / 256)) (m % 256 ∷ []), more)
    ]

-- Lengths

long_cmp : (m n : ℕ) → 128 ≤ m → 128 ≤ n → octets_cmp (length_octets m) (length_octets n) ≡ nat_cmp m n
long_cmp m n l k =
    let ds = digits 256 m in
    let es = digits 256 n in
    let a = digits-Digits 256 m (omega arith) in
    let b = digits-Digits 256 n (omega arith) in
    let same : length ds ≡ length es → octets_cmp ds es ≡ nat_cmp m n = λ e.
    after_cmp 0 0 ds es a.below b.below e ∙ ap (λ x. nat_cmp x (number_from_digits 256 es)) a.number ∙ ap (nat_cmp m) b.number in
    rw (length-long m ds l refl, length-long n es k refl) (grind (arith, nat_tests, same, fewer m n, fewer n m))
  where
    fewer : (m n : ℕ) → length (digits 256 m) < length (digits 256 n) → m < n
    fewer m n lt = elim (cases_lt m n) [ inl less ↦ less | inr le ↦ absurd (omega (arith, digits-monotone n m n (omega arith) le)) ]

-- The encodings of lengths are ordered as the lengths are (X.690 8.1.3).
pub length_octets_cmp : (m n : ℕ) → octets_cmp (length_octets m) (length_octets n) ≡ nat_cmp m n
length_octets_cmp m n =
    elim (cases_lt m 128) [
      | inl l ↦ elim (cases_lt n 128) [
        | inl k ↦ rw (length-short m l, length-short n k) (then_equal (nat_cmp m n))
        | inr k ↦ grind (arith, nat_tests, length-short m l, length-long n (digits 256 n) k refl)
      ]
      | inr l ↦ elim (cases_lt n 128) [
        | inl k ↦ grind (arith, nat_tests, length-long m (digits 256 m) l refl, length-short n k)
        | inr k ↦ long_cmp m n l k
      ]
    ]

-- Two lengths have equally many digits, or their encodings differ in the first byte.
length_splits : (m n : ℕ) → Splits (length_octets m) (length_octets n)
length_splits m n =
    elim (cases_lt m 128) [
      | inl l ↦ elim (cases_lt n 128) [
        | inl k ↦ rw (length-short m l, length-short n k) (λ _. tt)
        | inr k ↦ rw (length-short m l, length-long n (digits 256 n) k refl) (λ e. absurd (omega arith))
      ]
      | inr l ↦ elim (cases_lt n 128) [
        | inl k ↦ rw (length-long m (digits 256 m) l refl, length-short n k) (λ e. absurd (omega arith))
        | inr k ↦ rw (length-long m (digits 256 m) l refl, length-long n (digits 256 n) k refl)
            (λ e. splits_lengths (digits 256 m) (digits 256 n) (omega arith))
      ]
    ]

-- Tags

-- The five bits of the number in a first byte.
leading_low : (class : ℕ) (c : Bool) (low : ℕ) → low < 32 → leading class c low % 32 ≡ low
leading_low class true low l = omega arith
leading_low class false low l = omega arith

low-lt : (n : ℕ) → low_bits n < 32
low-lt n = grind (arith, nat_tests)

octet_low : (t : Tag) → leading_octet t % 32 ≡ low_bits (number_of t)
octet_low (tags.Application c number) = leading_low 1 c (low_bits number.value) (low-lt number.value)
octet_low (tags.ContextSpecific c number) = leading_low 2 c (low_bits number.value) (low-lt number.value)
octet_low (tags.Private c number) = leading_low 3 c (low_bits number.value) (low-lt number.value)
octet_low t = refl

-- The last byte of a number is known as the last.
number_splits : (m n : ℕ) → low_bits m ≡ low_bits n → Splits (number_octets m) (number_octets n)
number_splits m n e =
    elim (cases_lt m 31) [
      | inl l ↦ elim (cases_lt n 31) [
        | inl k ↦ rw (lt-ltb m 31 l, lt-ltb n 31 k) tt
        | inr k ↦ absurd (grind (arith, nat_tests))
      ]
      | inr l ↦ elim (cases_lt n 31) [
        | inl k ↦ absurd (grind (arith, nat_tests))
        | inr k ↦ rw (le-ltb m 31 l, le-ltb n 31 k) marked_splits
      ]
    ]
  where
    marked_splits : Splits (marked (digits 128 m)) (marked (digits 128 n))
    marked_splits =
        let a = digits-Digits 128 m (omega arith) in
        let b = digits-Digits 128 n (omega arith) in
        splits_free (marked (digits 128 m)) (marked (digits 128 n)) (λ r s f. ap marked (split-marked (digits 128 m) (digits 128 n) r s a.below b.below a.some b.some f).0)

pub tag_splits : (a b : Tag) → Splits (tag_octets a) (tag_octets b)
unfolding tag_octets
tag_splits a b = λ e. number_splits (number_of a) (number_of b) (sym (octet_low a) ∙ ap (λ o. o % 32) e ∙ octet_low b)

-- Two tags with the same encoding are equal.
pub tag_cmp-equal : (a b : Tag) → IsTag a → IsTag b → octets_cmp (tag_octets a) (tag_octets b) ≡ Equal → a ≡ b
tag_cmp-equal a b p q e =
    let same : tag_octets a ++ [] ≡ tag_octets b ++ [] = ap (λ w. w ++ []) (octets_cmp-equal (tag_octets a) (tag_octets b) e) in
    let k : (a, []) ≡ (b, []) = ok_is (a, []) (b, []) (sym (tag_again a [] p) ∙ ap tag_at same ∙ tag_again b [] q) in
    ap (λ (x : Tag × List ℕ). x.0) k

-- Headers

pub head_cmp : (a b : Tag) (m n : ℕ)
    → octets_cmp (head_octets a m) (head_octets b n) ≡ ordering_then (octets_cmp (tag_octets a) (tag_octets b)) (octets_cmp (length_octets m) (length_octets n))
unfolding head_octets
head_cmp a b m n = octets_cmp-append (tag_octets a) (tag_octets b) (length_octets m) (length_octets n) (tag_splits a b)

head_splits : (a b : Tag) (m n : ℕ) → Splits (head_octets a m) (head_octets b n)
unfolding head_octets
head_splits a b m n = splits_append (tag_octets a) (tag_octets b) (length_octets m) (length_octets n) (tag_splits a b) (λ _. length_splits m n)

then_second : (a b : Ordering) → ordering_then a b ≡ Equal → b ≡ Equal
then_second a b h = grind (arith, nat_tests)

-- The header determines the length of the content.
head_length : (a b : Tag) (m n : ℕ) → head_octets a m ≡ head_octets b n → m ≡ n
head_length a b m n e =
    nat_cmp-equal m n
    (sym (length_octets_cmp m n)
    ∙ then_second (octets_cmp (tag_octets a) (tag_octets b)) (octets_cmp (length_octets m) (length_octets n))
    (sym (head_cmp a b m n) ∙ ap (octets_cmp (head_octets a m)) (sym e) ∙ octets_cmp-self (head_octets a m)))

-- Encodings of values

pub tlv_splits : (a b : Tag) (c d : List ℕ) → Splits (tlv a c) (tlv b d)
unfolding tlv
tlv_splits a b c d =
    splits_append (head_octets a (length c)) (head_octets b (length d)) c d (head_splits a b (length c) (length d))
    (λ e. splits_lengths c d (head_length a b (length c) (length d) e))

-- The headers decide before the contents.
pub tlv_cmp : (a b : Tag) (c d : List ℕ)
    → octets_cmp (tlv a c) (tlv b d) ≡ ordering_then (octets_cmp (tag_octets a) (tag_octets b)) (ordering_then (nat_cmp (length c) (length d)) (octets_cmp c d))
unfolding tlv
tlv_cmp a b c d =
    octets_cmp-append (head_octets a (length c)) (head_octets b (length d)) c d (head_splits a b (length c) (length d))
    ∙ rw (head_cmp a b (length c) (length d), length_octets_cmp (length c) (length d)) (then_assoc (octets_cmp (tag_octets a) (tag_octets b)) (nat_cmp (length c) (length d)) (octets_cmp c d))

-- The order of tagged contents, by their headers and then by their contents

tagged_sized : (t : Tag) (c : Content) (v : ContentValue c) → IsValid (tagged t c) v → size_content c v ≡ Ok (length (contents c v))
unfolding IsValid
tagged_sized t c v h = sized_content c v h.0 (fits_contents t (contents c v) h.2)

pub tagged_content : (t : Tag) (c : Content) (v : ContentValue c) → IsValid (tagged t c) v → IsContent c v
unfolding IsValid
tagged_content t c v h = h.0

-- A valid value has a length.
pub never_long : (t : Tag) (c : Content) (v : ContentValue c) (k : ErrorKind) → IsValid (tagged t c) v → size_content c v ≡ Err k → ⊥
never_long t c v k h e = let s = tagged_sized t c v h in absurd cc

-- If the content is too long, so is the value with its header.
pub long_inside : (a b : Tag) (c : Content) (v w : ContentValue c) (e : Error) → Overflows e (size_content c v) (size_content c w) → Overflows e (size (tagged a c) v) (size (tagged b c) w)
long_inside a b c v w e = longer e (tlv_over a (size_content c v)) (tlv_over b (size_content c w))

pub first_long : (a b : Tag) (c : Content) (v w : ContentValue c) (e : Error) → size_content c v ≡ Err e.kind → Overflows e (size (tagged a c) v) (size (tagged b c) w)
first_long a b c v w e h = let k = content_only c v e.kind h in long_inside a b c v w e (record { kind = k; length = inl (h ∙ ap (λ j. Err j) k) })

pub second_long : (a b : Tag) (c : Content) (v w : ContentValue c) (e : Error) → size_content c w ≡ Err e.kind → Overflows e (size (tagged a c) v) (size (tagged b c) w)
second_long a b c v w e h = let k = content_only c w e.kind h in long_inside a b c v w e (record { kind = k; length = inr (h ∙ ap (λ j. Err j) k) })

-- The length that was computed is that of the content.
content_length : (c : Content) (v : ContentValue c) (n : ℕ) → size_content c v ≡ Ok n → length (contents c v) ≡ n
content_length c v n e = (count_is (length (contents c v)) n (sym (content_counted c v) ∙ e)).0

module _ (a b : Tag) (c : Content) (v w : ContentValue c) (m n : ℕ) (o : Ordering) where
  by_headers : size_content c v ≡ Ok m → size_content c w ≡ Ok n
      → octets_cmp (octets_of (tagged a c) v) (octets_of (tagged b c) w)
      ≡ ordering_then (ordering_then (octets_cmp (tag_octets a) (tag_octets b)) (octets_cmp (length_octets m) (length_octets n))) (contents_cmp c v w)
  unfolding octets_of
  by_headers i j =
      tlv_cmp a b (contents c v) (contents c w)
      ∙ rw (content_length c v m i, content_length c w n j, length_octets_cmp m n, then_assoc (octets_cmp (tag_octets a) (tag_octets b)) (nat_cmp m n) (contents_cmp c v w)) refl

  -- The headers differ.
  pub headers_decide : size_content c v ≡ Ok m → size_content c w ≡ Ok n
      → o ≡ ordering_then (octets_cmp (tag_octets a) (tag_octets b)) (octets_cmp (length_octets m) (length_octets n)) → is_ne o ≡ true
      → o ≡ octets_cmp (octets_of (tagged a c) v) (octets_of (tagged b c) w)
  headers_decide i j e differ = rw (by_headers i j, ← e) (first_decides o (contents_cmp c v w) differ)

  -- The headers are equal.
  pub contents_decide : size_content c v ≡ Ok m → size_content c w ≡ Ok n
      → o ≡ ordering_then (octets_cmp (tag_octets a) (tag_octets b)) (octets_cmp (length_octets m) (length_octets n)) → is_ne o ≡ false
      → contents_cmp c v w ≡ octets_cmp (octets_of (tagged a c) v) (octets_of (tagged b c) w)
  contents_decide i j e same = rw (by_headers i j, ← e) (others_decide o (contents_cmp c v w) same)

-- A result that is one order is also another order that equals it.
pub told_as : (r : Result Ordering Error) {x y : Ordering} → x ≡ y → IfOk r (λ o. o ≡ x) → IfOk r (λ o. o ≡ y)
told_as (Ok o) e h = h ∙ e
told_as (Err k) e h = tt

-- Two values with the same tag.
pub one_tag : (t : Tag) (m n : ℕ) (o : Ordering) → o ≡ octets_cmp (length_octets m) (length_octets n) → o ≡ ordering_then (octets_cmp (tag_octets t) (tag_octets t)) (octets_cmp (length_octets m) (length_octets n))
one_tag t m n o e = rw (octets_cmp-self (tag_octets t)) e

-- The order of contents that aren't sequences of values

pub leaf_contents : (l : Leaf) (v w : LeafValue l) → contents_cmp (leaf l) v w ≡ octets_cmp (octets_of_leaf l v) (octets_of_leaf l w)
unfolding contents
leaf_contents l v w = refl

pub bool_contents : (v w : Bool) → contents_cmp (leaf boolean) v w ≡ bool_cmp v w
unfolding contents
bool_contents v w = grind (arith, nat_tests)

pub null_contents : (v w : Unit {0}) → contents_cmp (leaf null) v w ≡ Equal
unfolding contents
null_contents v w = refl
