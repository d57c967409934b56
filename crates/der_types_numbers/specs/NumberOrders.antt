-- The orders of integers: by the length of the content, and then by its bytes. For integers that
-- aren't negative, this is the order of the numbers.
use Rattle.std.specs.Prelude.{◌≡◌, ℕ, ℤ, pos, ◌/◌, ◌%◌, ◌<◌, ◌≤◌, zero, suc, List}
use Rattle.std.specs.Prelude.{[], ◌∷◌, ◌++◌, length, nat_eq}
use Rattle.std.proofs.Common.{refl, sym, ap, ◌∙◌, arith, inl, inr}
use Rattle.std.proofs.lemmas.Bool.{cases_lt}
use Rattle.std.proofs.lemmas.Bool.Decides.{nat_tests}
use Rattle.std.proofs.lemmas.List.{length-append}
use Rattle.std.specs.Cmp.{IsTotalOrder, nat_cmp_total, on_total, tied_itself}
use Rattle.std.specs.Cmp.Lexicographic.{pointwise, slice_cmp}
use Rattle.std.specs.Int.Digits.{number_from_digits}
use Rattle.std.specs.Ordering.{nat_cmp, ordering_then, is_eq, eq_by_cmp}
use Rattle.std.specs.declared.cmp.Ordering.{Ordering}
use Rattle.der_core.specs.Oid.Digits.{digits}
use Rattle.der_core.specs.Oid.Orders.{sized_cmp, sized_cmp_total, sized_cmp_ties}
use Rattle.der_core.proofs.DigitLaws.{number_from_digits-digits, digits-Digits, digits-one}
use Rattle.der_core.proofs.DigitLaws.{digits-more, halved}
use Rattle.der_core.specs.Integers.{every, natural, positive, integer_octets}
use Rattle.der_core.specs.Leaves.{integer}
use Rattle.der_core.specs.Shapes.{leaf, contents, IsContent}
use Rattle.der_core.proofs.IntegerLaws.{integer_octets-below}
use Rattle.der_core.specs.Orders.{contents_cmp}
use Rattle.der_core.proofs.OrderLaws.{split_cmp, after_cmp}
use Rattle.der_core.proofs.OrderLaws.{then_equal, octets_cmp-append, splits_lengths}

-- The order of integers of either sign: by the length of the content, and then by its bytes.
abbrev pub integer_cmp : ℤ → ℤ → Ordering
integer_cmp a b = sized_cmp (integer_octets a) (integer_octets b)

-- The order of integers is total.
pub integer_cmp_total : IsTotalOrder integer_cmp
integer_cmp_total = on_total integer_octets sized_cmp_total

-- Integers are equal exactly if the order is `Equal`.
pub integer_cmp_ties : (a b : ℤ) → pointwise nat_eq (integer_octets a) (integer_octets b)
    ≡ eq_by_cmp integer_cmp a b
integer_cmp_ties a b = sized_cmp_ties (integer_octets a) (integer_octets b)

-- For contents of equal length, this is the order of the contents.
pub integer_order : (v w : ℤ) → IsContent (leaf (integer every)) v
    → IsContent (leaf (integer every)) w
    → length (contents (leaf (integer every)) v) ≡ length (contents (leaf (integer every)) w)
    → integer_cmp v w ≡ contents_cmp (leaf (integer every)) v w
unfolding contents
integer_order v w p q e =
    ap (λ o. ordering_then o (slice_cmp nat_cmp (integer_octets v) (integer_octets w)))
    (ap (nat_cmp (length (integer_octets v))) (sym e)
    ∙ tied_itself nat_cmp_total (length (integer_octets v)))

-- Appending a digit to both lists.
sized_push : (a b : List ℕ) (x y : ℕ) → sized_cmp (a ++ x ∷ []) (b ++ y ∷ [])
    ≡ ordering_then (sized_cmp a b) (nat_cmp x y)
sized_push a b x y =
    let same = λ (e : length a ≡ length b).
    octets_cmp-append a b (x ∷ []) (y ∷ []) (splits_lengths a b e)
    ∙ ap (ordering_then (slice_cmp nat_cmp a b)) (then_equal (nat_cmp x y)) in
    grind (arith, nat_tests, same, length-append a (x ∷ []), length-append b (y ∷ []))

-- One digit is fewer than several.
one_or_more : (m n : ℕ) → m < 256 → 256 ≤ n → length (digits 256 m) < length (digits 256 n)
one_or_more m n l k =
    let some = (digits-Digits 256 (n / 256) (omega arith)).some in
    omega (
      arith,
      ap length (digits-one 256 m l),
      ap length (digits-more 256 n (omega arith) k),
      length-append (digits 256 (n / 256)) (n % 256 ∷ []),
      some,
    )

small_cmp : (m n : ℕ) → m < 256 → sized_cmp (digits 256 m) (digits 256 n) ≡ nat_cmp m n
small_cmp m n l =
    elim (cases_lt n 256) [
      | inl k ↦ rw (digits-one 256 m l, digits-one 256 n k) (then_equal (nat_cmp m n))
      | inr k ↦ grind (arith, nat_tests, one_or_more m n l k)
    ]

digits_within_cmp : (room m n : ℕ) → m ≤ room → sized_cmp (digits 256 m) (digits 256 n)
    ≡ nat_cmp m n
digits_within_cmp zero m n small = small_cmp m n (omega arith)
digits_within_cmp (suc room) m n small =
    elim (cases_lt m 256) [
      | inl l ↦ small_cmp m n l
      | inr l ↦ elim (cases_lt n 256) [
        | inl k ↦ grind (arith, nat_tests, one_or_more n m k l)
        | inr k ↦
            rw (digits-more 256 m (omega arith) l, digits-more 256 n (omega arith) k)
            (sized_push (digits 256 (m / 256)) (digits 256 (n / 256)) (m % 256) (n % 256)
            ∙ ap (λ o. ordering_then o (nat_cmp (m % 256) (n % 256)))
            (digits_within_cmp room (m / 256) (n / 256)
            (halved 256 room m (omega arith) l small))
            ∙ split_cmp 256 m n (omega arith))
      ]
    ]

-- The order by the number of digits, and then by the digits, is that of the numbers.
pub digits_cmp : (m n : ℕ) → sized_cmp (digits 256 m) (digits 256 n) ≡ nat_cmp m n
digits_cmp m n = digits_within_cmp m m n (omega arith)

pub digits_ties : (m n : ℕ) → pointwise nat_eq (digits 256 m) (digits 256 n) ≡ eq_by_cmp nat_cmp m n
digits_ties m n = sized_cmp_ties (digits 256 m) (digits 256 n) ∙ ap is_eq (digits_cmp m n)

-- A leading zero doesn't change the value.
positive-number : (w : List ℕ) → number_from_digits 256 (positive w) ≡ number_from_digits 256 w
positive-number [] = refl
positive-number (d ∷ ds) = grind (arith, nat_tests)

-- The value of a content.
pub number-content : (n : ℕ) → number_from_digits 256 (integer_octets (pos n)) ≡ n
unfolding integer_octets
number-content n = positive-number (digits 256 n) ∙ number_from_digits-digits 256 n (omega arith)

-- Contents of equal length are ordered as their numbers are, if these aren't negative.
pub natural_order : (v w : ℕ) → IsContent (leaf (integer natural)) (pos v)
    → IsContent (leaf (integer natural)) (pos w)
    → length (contents (leaf (integer natural)) (pos v))
    ≡ length (contents (leaf (integer natural)) (pos w)) → nat_cmp v w
    ≡ contents_cmp (leaf (integer natural)) (pos v) (pos w)
unfolding contents
natural_order v w p q e =
    (λ i. nat_cmp (sym (number-content v) i) (sym (number-content w) i))
    ∙ sym
    (after_cmp 0 0 (integer_octets (pos v)) (integer_octets (pos w))
    (integer_octets-below (pos v)) (integer_octets-below (pos w)) e)
