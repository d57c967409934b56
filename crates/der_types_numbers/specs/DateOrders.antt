-- The order of dates: by year, month, day, hour, minute and second.
use Rattle.std.specs.Prelude.{◌≡◌, ℕ, ◌+◌, ◌/◌, ◌%◌, List, [], ◌∷◌, ◌++◌, length}
use Rattle.std.proofs.Common.{ap, sym, ◌∙◌, arith}
use Rattle.std.proofs.lemmas.Bool.Decides.{nat_tests}
use Rattle.std.specs.Cmp.Lexicographic.{slice_cmp}
use Rattle.std.specs.Ordering.{nat_cmp, ordering_then}
use Rattle.std.specs.declared.cmp.Ordering.{Ordering}
use Rattle.der_core.specs.Dates.{Civil, two_digits, after_year, generalized_octets}
use Rattle.der_core.specs.Leaves.{generalized_time}
use Rattle.der_core.specs.Shapes.{leaf, contents, IsContent}
use Rattle.der_core.specs.Orders.{contents_cmp}
use Rattle.der_core.proofs.OrderLaws.{split_cmp}
use Rattle.der_core.proofs.OrderLaws.{then_assoc, then_equal}

-- The order of dates.
abbrev pub civil_cmp : Civil → Civil → Ordering
civil_cmp c d =
    ordering_then (nat_cmp c.year d.year)
    (ordering_then (nat_cmp c.month d.month) (ordering_then (nat_cmp c.day d.day)
    (ordering_then (nat_cmp c.hour d.hour)
    (ordering_then (nat_cmp c.minute d.minute) (nat_cmp c.second d.second)))))

digit_cmp : (m n : ℕ) → nat_cmp (48 + m) (48 + n) ≡ nat_cmp m n
digit_cmp m n = grind (arith, nat_tests)

two_digits_cmp : (m n : ℕ) (v w : List ℕ)
    → slice_cmp nat_cmp (two_digits m ++ v) (two_digits n ++ w)
    ≡ ordering_then (nat_cmp m n) (slice_cmp nat_cmp v w)
two_digits_cmp m n v w =
    (λ i. ordering_then (digit_cmp (m / 10) (n / 10) i)
    (ordering_then (digit_cmp (m % 10) (n % 10) i) (slice_cmp nat_cmp v w)))
    ∙ sym
    (then_assoc (nat_cmp (m / 10) (n / 10)) (nat_cmp (m % 10) (n % 10)) (slice_cmp nat_cmp v w))
    ∙ ap (λ o. ordering_then o (slice_cmp nat_cmp v w)) (split_cmp 10 m n (omega arith))

-- The text from the second on, and from the minute, the hour and the day on.
abbrev from_second : Civil → List ℕ
from_second c = two_digits c.second ++ (90 ∷ [])

abbrev from_minute : Civil → List ℕ
from_minute c = two_digits c.minute ++ from_second c

abbrev from_hour : Civil → List ℕ
from_hour c = two_digits c.hour ++ from_minute c

abbrev from_day : Civil → List ℕ
from_day c = two_digits c.day ++ from_hour c

after_year_cmp : (c d : Civil) → slice_cmp nat_cmp (after_year c) (after_year d)
    ≡ ordering_then (nat_cmp c.month d.month)
    (ordering_then (nat_cmp c.day d.day)
    (ordering_then (nat_cmp c.hour d.hour)
    (ordering_then (nat_cmp c.minute d.minute) (nat_cmp c.second d.second))))
after_year_cmp c d =
    two_digits_cmp c.month d.month (from_day c) (from_day d)
    ∙ ap (ordering_then (nat_cmp c.month d.month)) (
    two_digits_cmp c.day d.day (from_hour c) (from_hour d)
    ∙ ap (ordering_then (nat_cmp c.day d.day)) (
    two_digits_cmp c.hour d.hour (from_minute c) (from_minute d)
    ∙ ap (ordering_then (nat_cmp c.hour d.hour)) (
    two_digits_cmp c.minute d.minute (from_second c) (from_second d)
    ∙ ap (ordering_then (nat_cmp c.minute d.minute)) (
    two_digits_cmp c.second d.second (90 ∷ []) (90 ∷ [])
    ∙ then_equal (nat_cmp c.second d.second)))))

-- The contents of GeneralizedTime values are ordered by time.
pub generalized_octets_cmp : (c d : Civil)
    → slice_cmp nat_cmp (generalized_octets c) (generalized_octets d) ≡ civil_cmp c d
unfolding generalized_octets
generalized_octets_cmp c d =
    two_digits_cmp (c.year / 100) (d.year / 100) (two_digits (c.year % 100) ++ after_year c)
    (two_digits (d.year % 100) ++ after_year d)
    ∙ ap (ordering_then (nat_cmp (c.year / 100) (d.year / 100)))
    (two_digits_cmp (c.year % 100) (d.year % 100) (after_year c) (after_year d))
    ∙ sym
    (then_assoc (nat_cmp (c.year / 100) (d.year / 100)) (nat_cmp (c.year % 100) (d.year % 100))
    (slice_cmp nat_cmp (after_year c) (after_year d)))
    ∙ (λ i. ordering_then (split_cmp 100 c.year d.year (omega arith) i) (after_year_cmp c d i))

pub generalized_order : (c d : Civil) → IsContent (leaf generalized_time) c
    → IsContent (leaf generalized_time) d
    → length (contents (leaf generalized_time) c) ≡ length (contents (leaf generalized_time) d)
    → civil_cmp c d ≡ contents_cmp (leaf generalized_time) c d
unfolding contents
generalized_order c d p q e = sym (generalized_octets_cmp c d)
