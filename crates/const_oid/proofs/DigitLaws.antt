-- Lemmas about digits: they are below the base, don't begin with zero, and have the value of their
-- number. Marked digits determine where they end.
use Rattle.std.proofs.Common.{◌≡◌, ℕ, zero, suc, ◌+◌, ◌*◌, ◌/◌, ◌%◌, ◌^◌, ◌<◌, ◌≤◌, ◌⊎◌, inl, inr, List, [], ◌∷◌, ◌++◌, length, get_or, map, sym, refl, ap, subst, ◌∙◌, arith, div-add-mod', mod-lt, mul-le-mul_left, length-append, append_assoc, append-nil}
use Rattle.std.specs.List.{AllByRecursion}
use Rattle.std.specs.Int.Digits.{number_from_digits, number_from_digits_after, AllBelowBase}
use Rattle.std.proofs.lemmas.Int.Digits.{number_push, number_lt}
use Rattle.std.proofs.Math.Nat.{pow-suc, pow-zero}
use Rattle.std.proofs.lemmas.List.{get_or_append_left}
use Rattle.std.proofs.lemmas.Bool.{cases_lt, lt-ltb, le-ltb}
use Rattle.std.proofs.lemmas.Nat.{div-mul-add, mod-mul-add, div_below}
use Rattle.const_oid.specs.Digits.{digits_within, digits, marked}

-- Digits and values

pub below-push : (b : ℕ) (ds : List ℕ) (d : ℕ) → AllBelowBase b ds → d < b → AllBelowBase b (ds ++ (d ∷ []))
below-push b [] d all here = (here, tt)
below-push b (x ∷ ds) d all here = (all.0, below-push b ds d all.1 here)

-- A quotient needs less room than its number.
pub halved : (base room n : ℕ) → 2 ≤ base → base ≤ n → n ≤ suc room → n / base ≤ room
halved base room n two large small =
    let parts : n / base * base + n % base ≡ n = div-add-mod' n base in
    let more : n / base * 2 ≤ n / base * base = mul-le-mul_left (n / base) two in
    omega arith

-- The quotient of a number that is at least the base is above 0.
pub quotient_pos : (base n : ℕ) → 2 ≤ base → base ≤ n → 0 < n / base
quotient_pos base n two large = go (n / base) (div-add-mod' n base) (mod-lt n (omega arith))
  where
    go : (q : ℕ) → q * base + n % base ≡ n → n % base < base → 0 < q
    go zero e less = absurd (omega arith)
    go (suc q) e less = omega arith

-- The properties of the digits of `n`, whatever the room was.
pub record Digits (base n : ℕ) (ds : List ℕ) : Type 0 where
  pub below : AllBelowBase base ds
  pub number : number_from_digits base ds ≡ n
  pub some : 0 < length ds

one_digit : (base n : ℕ) → n < base → Digits base n (n ∷ [])
one_digit base n small = record { below = (small, tt); number = omega arith; some = omega arith }

more_digits : (base n : ℕ) (ds : List ℕ) → 2 ≤ base → Digits base (n / base) ds → Digits base n (ds ++ (n % base ∷ []))
more_digits base n ds two d = record {
  below = below-push base ds (n % base) d.below (mod-lt n (omega arith));
  number = number_push base ds (n % base) ∙ ap (λ x. x * base + n % base) d.number ∙ div-add-mod' n base;
  some = omega (arith, length-append ds (n % base ∷ []));
}

-- One digit and more digits

within-one : (base room n : ℕ) → n < base → digits_within base room n ≡ n ∷ []
unfolding digits_within
within-one base zero n l = refl
within-one base (suc room) n l = rw (lt-ltb n base l, digits_within) refl

within-more : (base room n : ℕ) → base ≤ n → digits_within base (suc room) n ≡ digits_within base room (n / base) ++ (n % base ∷ [])
unfolding digits_within
within-more base room n l = rw (le-ltb n base l, digits_within) refl

-- More room than enough doesn't change the digits.
same_room : (base j k n : ℕ) → 2 ≤ base → n ≤ j → n ≤ k → digits_within base j n ≡ digits_within base k n
same_room base zero k n two p q = within-one base zero n (omega arith) ∙ sym (within-one base k n (omega arith))
same_room base (suc j) zero n two p q = within-one base (suc j) n (omega arith) ∙ sym (within-one base zero n (omega arith))
same_room base (suc j) (suc k) n two p q =
    go (cases_lt n base) (λ l. same_room base j k (n / base) two (halved base j n two l p) (halved base k n two l q))
  where
    go : (n < base) ⊎ (base ≤ n) → (base ≤ n → digits_within base j (n / base) ≡ digits_within base k (n / base))
        → digits_within base (suc j) n ≡ digits_within base (suc k) n
    go (inl l) ih = within-one base (suc j) n l ∙ sym (within-one base (suc k) n l)
    go (inr l) ih = within-more base j n l ∙ ap (λ ds. ds ++ (n % base ∷ [])) (ih l) ∙ sym (within-more base k n l)

pub digits-one : (base n : ℕ) → n < base → digits base n ≡ n ∷ []
unfolding digits
digits-one base n l = within-one base n n l

pub digits-more : (base n : ℕ) → 2 ≤ base → base ≤ n → digits base n ≡ digits base (n / base) ++ (n % base ∷ [])
unfolding digits
digits-more base zero two l = absurd (omega arith)
digits-more base (suc n) two l =
    within-more base n (suc n) l
    ∙ ap (λ ds. ds ++ (suc n % base ∷ [])) (same_room base n (suc n / base) (suc n / base) two (halved base n (suc n) two l (omega arith)) (omega arith))

-- Induction over digits: a property holds for each number if it holds for each digit and passes
-- from a number's digits without the last one to the number.
pub by_digits : (base : ℕ) (P : ℕ → Type 0) → 2 ≤ base → ((n : ℕ) → n < base → P n) → ((n : ℕ) → base ≤ n → P (n / base) → P n) → (n : ℕ) → P n
by_digits base P two one more n = within n n (omega arith)
  where
    within : (room n : ℕ) → n ≤ room → P n
    within zero n small = one n (omega arith)
    within (suc room) n small = go (cases_lt n base) (λ l. within room (n / base) (halved base room n two l small))
      where
        go : (n < base) ⊎ (base ≤ n) → (base ≤ n → P (n / base)) → P n
        go (inl l) ih = one n l
        go (inr l) ih = more n l (ih l)

pub digits-Digits : (base n : ℕ) → 2 ≤ base → Digits base n (digits base n)
digits-Digits base n two =
    by_digits base (λ k. Digits base k (digits base k)) two (λ k l. rw (digits-one base k l) (one_digit base k l))
    (λ k l d. rw (digits-more base k two l) (more_digits base k (digits base (k / base)) two d)) n

pub number_from_digits-digits : (base n : ℕ) → 2 ≤ base → number_from_digits base (digits base n) ≡ n
number_from_digits-digits base n two = (digits-Digits base n two).number

-- Numbers with equal digits are equal.
pub same_from_digits : (base m n : ℕ) → 2 ≤ base → digits base m ≡ digits base n → m ≡ n
same_from_digits base m n two e =
    sym (number_from_digits-digits base m two) ∙ ap (number_from_digits base) e ∙ number_from_digits-digits base n two

-- The number of digits

-- A number below `base ^ k` has at most `k` digits.
pub few_digits : (base k n : ℕ) → 2 ≤ base → 0 < k → n < base ^ k → length (digits base n) ≤ k
few_digits base zero n two some l = absurd (omega arith)
few_digits base (suc zero) n two some l =
    let base_is : 1 * base ≡ base = omega arith in
    omega (arith, ap length (digits-one base n (subst (λ x. n < x) (pow-suc base 0 ∙ ap (λ x. x * base) (pow-zero base) ∙ base_is) l)))
few_digits base (suc (suc k)) n two some l =
    by (cases_lt n base) (few_digits base (suc k) (n / base) two (omega arith) (div_below n base (base ^ suc k) (omega arith) (subst (λ x. n < x) (pow-suc base (suc k)) l)))
  where
    by : (n < base) ⊎ (base ≤ n) → length (digits base (n / base)) ≤ suc k → length (digits base n) ≤ suc (suc k)
    by (inl m) ih = omega (arith, ap length (digits-one base n m))
    by (inr m) ih = omega (arith, ap length (digits-more base n two m), length-append (digits base (n / base)) (n % base ∷ []), ih)

pub below_power : (base n : ℕ) → 2 ≤ base → n < base ^ length (digits base n)
below_power base n two =
    let d = digits-Digits base n two in
    subst (λ x. x < base ^ length (digits base n)) d.number (number_lt base (digits base n) d.below)

-- A smaller number has no more digits.
pub fewer_digits : (base m n : ℕ) → 2 ≤ base → m ≤ n → length (digits base m) ≤ length (digits base n)
fewer_digits base m n two l = few_digits base (length (digits base n)) m two (digits-Digits base n two).some (omega (arith, below_power base n two))

-- Appending a digit to the digits of a number above 0.
pub digits-push : (base n d : ℕ) → 2 ≤ base → 0 < n → d < base → digits base (n * base + d) ≡ digits base n ++ (d ∷ [])
digits-push base n d two some small =
    let more : 1 * base ≤ n * base = mul-le n some in
    digits-more base (n * base + d) two (omega arith)
    ∙ ap (λ q. digits base q ++ ((n * base + d) % base ∷ [])) (div-mul-add n base d small)
    ∙ ap (λ r. digits base n ++ (r ∷ [])) (mod-mul-add n base d small)
  where
    mul-le : (n : ℕ) → 0 < n → 1 * base ≤ n * base
    mul-le zero l = absurd (omega arith)
    mul-le (suc k) l = omega arith

-- Leading zeros

pub first_of_digits-pos : (base n : ℕ) → 2 ≤ base → 0 < n → 0 < get_or (digits base n) 0 0
first_of_digits-pos base n two l = by_digits base (λ k. 0 < k → 0 < get_or (digits base k) 0 0) two (λ k m l. rw (digits-one base k m) l) more n l
  where
    more : (k : ℕ) → base ≤ k → (0 < k / base → 0 < get_or (digits base (k / base)) 0 0) → 0 < k → 0 < get_or (digits base k) 0 0
    more k m ih l =
        rw (digits-more base k two m, get_or_append_left (digits base (k / base)) (k % base ∷ []) 0 0 (digits-Digits base (k / base) two).some) (ih (quotient_pos base k two m))

-- The digits of the number that further digits make of a number above 0.
digits-after : (base n : ℕ) (ds : List ℕ) → 2 ≤ base → 0 < n → AllBelowBase base ds → digits base (number_from_digits_after base n ds) ≡ digits base n ++ ds
digits-after base n [] two l all = sym (append-nil (digits base n))
digits-after base n (d ∷ ds) two l all =
    let next : 0 < n * base + d = grows n base l (omega arith) in
    digits-after base (n * base + d) ds two next all.1
    ∙ ap (λ t. t ++ ds) (digits-push base n d two l all.0)
    ∙ append_assoc (digits base n) (d ∷ []) ds
  where
    grows : (n base : ℕ) → 0 < n → 0 < base → 0 < n * base + d
    grows zero base l m = absurd (omega arith)
    grows (suc k) base l m = omega arith

-- Digits that don't begin with zero, or a single digit, are the digits of their value.
pub digits-number_from_digits : (base : ℕ) (ds : List ℕ) → 2 ≤ base → AllBelowBase base ds → (length ds ≡ 1) ⊎ (0 < get_or ds 0 0)
    → digits base (number_from_digits base ds) ≡ ds
digits-number_from_digits base (d ∷ []) two all h =
    let e : 0 * base + d ≡ d = omega arith in
    ap (digits base) e ∙ digits-one base d all.0
digits-number_from_digits base (d ∷ c ∷ ds) two all (inr l) =
    let e : 0 * base + d ≡ d = omega arith in
    ap (λ n. digits base (number_from_digits_after base n (c ∷ ds))) e
    ∙ digits-after base d (c ∷ ds) two l all.1
    ∙ ap (λ t. t ++ (c ∷ ds)) (digits-one base d all.0)
digits-number_from_digits base (d ∷ c ∷ ds) two all (inl e) = absurd (omega arith)
digits-number_from_digits base [] two all (inl e) = absurd (omega arith)
digits-number_from_digits base [] two all (inr l) = absurd (omega arith)

-- Marked digits

-- Two prefixes of a list that have the same length are equal.
pub split-same_length : (a b r s : List ℕ) → length a ≡ length b → a ++ r ≡ b ++ s → (a ≡ b) × (r ≡ s)
split-same_length [] [] r s l e = (refl, e)
split-same_length (x ∷ a) (y ∷ b) r s l e =
    let h : x ≡ y = cc in
    let t : a ++ r ≡ b ++ s = cc in
    let more : (a ≡ b) × (r ≡ s) = split-same_length a b r s (omega arith) t in
    (cc (more.0), more.1)
split-same_length _ _ r s l e = absurd (omega arith)

-- Marked digits end at the first digit without a mark.
pub split-marked : (ds es r s : List ℕ) → AllBelowBase 128 ds → AllBelowBase 128 es → 0 < length ds → 0 < length es
    → marked ds ++ r ≡ marked es ++ s → (ds ≡ es) × (r ≡ s)
unfolding marked
split-marked (d ∷ []) (f ∷ []) r s p q i j e =
    let h : d ≡ f = cc in
    (cc, cc)
split-marked (d ∷ []) (f ∷ g ∷ es) r s p q i j e =
    let h : d ≡ 128 + f = cc in
    absurd (omega arith)
split-marked (d ∷ c ∷ ds) (f ∷ []) r s p q i j e =
    let h : 128 + d ≡ f = cc in
    absurd (omega arith)
split-marked (d ∷ c ∷ ds) (f ∷ g ∷ es) r s p q i j e =
    let h : 128 + d ≡ 128 + f = cc in
    let h' : d ≡ f = omega arith in
    let t : marked (c ∷ ds) ++ r ≡ marked (g ∷ es) ++ s = cc in
    let more : (c ∷ ds ≡ g ∷ es) × (r ≡ s) = split-marked (c ∷ ds) (g ∷ es) r s p.1 q.1 (omega arith) (omega arith) t in
    (cc (h', more.0), more.1)
split-marked _ _ r s p q i j e = absurd (omega arith)

-- All digits before the last one are marked.
pub marked-push : (ds : List ℕ) (d : ℕ) → marked (ds ++ (d ∷ [])) ≡ map (λ x. 128 + x) ds ++ (d ∷ [])
unfolding marked
marked-push [] d = refl
marked-push (x ∷ []) d = refl
marked-push (x ∷ y ∷ ds) d = ap (λ t. (128 + x) ∷ t) (marked-push (y ∷ ds) d)

pub length-marked : (ds : List ℕ) → length (marked ds) ≡ length ds
unfolding marked
length-marked [] = refl
length-marked (d ∷ []) = refl
length-marked (d ∷ e ∷ ds) = ap suc (length-marked (e ∷ ds))

pub marked_below : (ds : List ℕ) → AllBelowBase 128 ds → AllByRecursion (λ o. o < 256) (marked ds)
unfolding marked
marked_below [] all = tt
marked_below (d ∷ []) all = (omega (arith, all.0), tt)
marked_below (d ∷ e ∷ ds) all = (omega (arith, all.0), marked_below (e ∷ ds) all.1)
