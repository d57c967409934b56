-- Lemmas about dates: they are ordered by their numbers of seconds, and dates with the same number
-- of seconds are equal.
use Rattle.std.proofs.Common.{◌≡◌, ◌<◌, ◌≤◌, ◌-◌, ℕ, zero, suc, ◌+◌, ◌*◌, ◌/◌, ◌%◌, ℤ, pos, ◌≤ℤ◌, ◌<ℤ◌, refl, ap, subst, ◌∙◌, arith, unsigned_abs, sym, Bool, true, false, int_lt, inl, inr, ◌==◌, ◌||◌, if◌then◌else◌, List, [], ◌∷◌, Some, eqb-true, Equal}
use Rattle.std.proofs.lemmas.Bool.{cases_lt}
use Rattle.std.proofs.lemmas.Bool.Decides.{nat_tests}
use Rattle.jiff_core.specs.Calendar.{IsCivilDate, day_count, days_from_civil, days_in_month as jiff_month, days_of_months as jiff_months}
use Rattle.jiff_core.proofs.CalendarLemmas.{day_count-epoch, day_count-next_year, day_count-day_of_year, day_count-lt_year, days_from_civil-day_count, days_of_months-zero, days_of_months_more, day_count-lt_month}
use Rattle.jiff_core.proofs.SignedLemmas.{signed_arith}
use Rattle.der_core.specs.Dates.{Civil, is_leap, days_in_month, is_civil, two_at}
use Rattle.der_core.proofs.TextLaws.{civil_ranges, two_at-again, two_at-sound, zulu-sound, zulu-again}
use Rattle.der_types_numbers.specs.Seconds.{days_of_years, days_of_months, unix_days, unix_seconds}
use Rattle.std.proofs.lemmas.Option.{option_and_then_some, cond_some, same_Some}
use Rattle.der_types_numbers.specs.DateTexts.{date_text, behind_mark, text_at}
use Rattle.std.specs.Ordering.{nat_cmp, ordering_then}
use Rattle.der_core.proofs.Oid.OrderLaws.{nat_cmp-same}
use Rattle.der_types_numbers.specs.DateOrders.{civil_cmp}

-- The days of the calendar in the crate `jiff_core`

same_month : (y m : ℕ) → jiff_month (pos y) m ≡ days_in_month y m
same_month y m = go (m == 2) (m == 4) (m == 6) (m == 9) (m == 11) (if is_leap y then 29 else 28)
  where
    go : (a b c d e : Bool) (k : ℕ) → (if a then k else if b || c || d || e then 30 else 31) ≡ (if a then k else if b || (c || (d || e)) then 30 else 31)
    go a b c d e k = grind (arith, nat_tests)

months_agree : (y n : ℕ) → jiff_months (pos y) n ≡ days_of_months y n
months_agree y zero = days_of_months-zero (pos y)
months_agree y (suc n) =
    let more = days_of_months_more (pos y) (suc n) (omega arith) in
    let e : suc n - 1 ≡ n = omega arith in
    let next : suc n ≡ 1 + n = omega arith in
    let month = same_month y (suc n) in
    let same : days_in_month y (suc n) ≡ days_in_month y (1 + n) = ap (days_in_month y) next in
    let before = months_agree y n in
    let now = rw e at more in
    omega arith

years_agree : (n : ℕ) → day_count (pos (1970 + n)) 1 1 ≡ 4_371_953 + days_of_years n
years_agree zero = day_count-epoch
years_agree (suc n) =
    let step = day_count-next_year (pos (1970 + n)) (pos (1970 + suc n)) (omega (arith, signed_arith)) (omega (arith, signed_arith)) in
    let before = years_agree n in
    omega arith

pub day_count_is : (y m d : ℕ) → 1970 ≤ y → 1 ≤ d → day_count (pos y) m d ≡ 4_371_953 + (days_of_years (y - 1970) + days_of_months y (m - 1) + (d - 1))
day_count_is y m d low day =
    let e : y ≡ 1970 + (y - 1970) = omega arith in
    let P : ℕ → Type 0 = λ k. day_count (pos k) 1 1 ≡ 4_371_953 + days_of_years (y - 1970) in
    let first : day_count (pos y) 1 1 ≡ 4_371_953 + days_of_years (y - 1970) = subst P (sym e) (years_agree (y - 1970)) in
    let now = day_count-day_of_year (pos y) m d day in
    let months = months_agree y (m - 1) in
    omega arith

-- The day number of a date from 1970 on.
pub day_number : (y m d : ℕ) → 1970 ≤ y → 1 ≤ d → days_from_civil (pos y) m d ≡ pos (days_of_years (y - 1970) + days_of_months y (m - 1) + (d - 1))
day_number y m d low day =
    let parts = days_from_civil-day_count (pos y) m d in
    let count = day_count_is y m d low day in
    omega (arith, signed_arith)

-- A day after 1970-01-01 is in a year from 1970 on.
pub year_is : (y : ℤ) (m d : ℕ) → IsCivilDate y m d → pos 0 ≤ℤ days_from_civil y m d → pos 1970 ≤ℤ y
year_is y m d civil day = go (int_lt y (pos 1970)) refl
  where
    go : (b : Bool) → int_lt y (pos 1970) ≡ b → pos 1970 ≤ℤ y
    go false e = omega (arith, signed_arith)
    go true e =
        let before : y <ℤ pos 1970 = omega (arith, signed_arith) in
        let early : day_count y m d < 4_371_953 = subst (λ k. day_count y m d < k) day_count-epoch (day_count-lt_year y m d (pos 1970) 1 1 civil (omega arith) before) in
        let parts = days_from_civil-day_count y m d in
        absurd (omega (arith, signed_arith))

pub date_is : (c : Civil) → is_civil c ≡ true → IsCivilDate (pos c.year) c.month c.day
date_is c h =
    let r = civil_ranges c h in
    let low : 1 ≤ c.month = grind (arith, nat_tests) in
    let early : 1 ≤ c.day = grind (arith, nat_tests) in
    let within : c.day ≤ days_in_month c.year c.month = grind (arith, nat_tests) in
    let late : c.day ≤ jiff_month (pos c.year) c.month = subst (λ k. c.day ≤ k) (sym (same_month c.year c.month)) within in
    ((omega (arith, signed_arith), omega (arith, signed_arith)), (low, r.month), (early, late))

pub civil_is : (c : Civil) → IsCivilDate (pos c.year) c.month c.day → 1970 ≤ c.year → c.hour < 24 → c.minute < 60 → c.second < 60 → is_civil c ≡ true
civil_is c date year hour minute second =
    let high : c.year < 10000 = let h = date.0.1 in omega (arith, signed_arith) in
    let late : c.day ≤ days_in_month c.year c.month = subst (λ k. c.day ≤ k) (same_month c.year c.month) date.2.1 in
    let month = date.1 in
    let day = date.2.0 in
    grind (arith, nat_tests, month.0, month.1)

-- The day number of a date is its number of days.
pub unix_day_number : (c : Civil) → is_civil c ≡ true → days_from_civil (pos c.year) c.month c.day ≡ pos (unix_days c)
unfolding unix_days
unix_day_number c h =
    let r = civil_ranges c h in
    let d = date_is c h in
    day_number c.year c.month c.day r.from_year d.2.0

-- The number of seconds of a date with a known day number and time of day.
pub seconds_are : (c : Civil) (n : ℕ) → is_civil c ≡ true → days_from_civil (pos c.year) c.month c.day ≡ pos (n / 86400) → 3600 * c.hour + 60 * c.minute + c.second ≡ n % 86400 → unix_seconds c ≡ n
unfolding unix_seconds
seconds_are c n h day rest =
    let days : pos (unix_days c) ≡ pos (n / 86400) = sym (unix_day_number c h) ∙ day in
    let same : unix_days c ≡ n / 86400 = ap unsigned_abs days in
    omega arith

years_grow : (n k : ℕ) → days_of_years n ≤ days_of_years (k + n)
years_grow n zero = let e : 0 + n ≡ n = omega arith in subst (λ m. days_of_years n ≤ days_of_years m) (sym e) (omega arith)
years_grow n (suc k) =
    let before = years_grow n k in
    let e : suc k + n ≡ suc (k + n) = omega arith in
    subst (λ m. days_of_years n ≤ days_of_years m) (sym e) (more before)
  where
    more : days_of_years n ≤ days_of_years (k + n) → days_of_years n ≤ days_of_years (suc (k + n))
    more h = omega (arith, h)

-- The number of seconds of a date through 2049.
pub utc_seconds : (c : Civil) → is_civil c ≡ true → (c.year ≤ 2049 → unix_seconds c < 2_524_608_000) × (unix_seconds c < 2_524_608_000 → c.year ≤ 2049)
unfolding unix_seconds unix_days
utc_seconds c h = (early, late)
  where
    early : c.year ≤ 2049 → unix_seconds c < 2_524_608_000
    early year =
        let r = civil_ranges c h in
        let d = date_is c h in
        let e : days_of_years 80 ≡ 29220 = refl in
        let before = day_count-lt_year (pos c.year) c.month c.day (pos 2050) 1 1 d (omega arith) (omega (arith, signed_arith)) in
        let now = day_count_is c.year c.month c.day r.from_year d.2.0 in
        let first = day_count_is 2050 1 1 (omega arith) (omega arith) in
        omega (arith, r.hour, r.minute, r.second)

    late : unix_seconds c < 2_524_608_000 → c.year ≤ 2049
    late small = elim (cases_lt c.year 2050) [
      | inl l ↦ omega arith
      | inr l ↦
          let e : days_of_years 80 ≡ 29220 = refl in
          let same : c.year - 2050 + 80 ≡ c.year - 1970 = omega arith in
          let more : days_of_years 80 ≤ days_of_years (c.year - 1970) = subst (λ m. days_of_years 80 ≤ days_of_years m) same (years_grow 80 (c.year - 2050)) in
          absurd (omega (arith, small))
    ]

-- A text is that of at most one date, and parses to it

mark_at-sound : (m : ℕ) (w r : List ℕ) → behind_mark m w ≡ Some r → w ≡ m ∷ r
mark_at-sound m [] r e = absurd cc
mark_at-sound m (o ∷ w) r e =
    let parts = cond_some (o == m) w r e in
    cc (eqb-true o m parts.0, parts.1)

pub text_at-sound : (w : List ℕ) (c : Civil) → text_at w ≡ Some c → (is_civil c ≡ true) × (w ≡ date_text c)
unfolding text_at date_text
text_at-sound w c e =
    option_and_then_some _ (two_at w) c e (λ century e1 e.
    option_and_then_some _ (two_at century.1) c e (λ year e2 e.
    option_and_then_some _ (behind_mark 45 year.1) c e (λ r1 m1 e.
    option_and_then_some _ (two_at r1) c e (λ month e3 e.
    option_and_then_some _ (behind_mark 45 month.1) c e (λ r2 m2 e.
    option_and_then_some _ (two_at r2) c e (λ day e4 e.
    option_and_then_some _ (behind_mark 84 day.1) c e (λ r3 m3 e.
    option_and_then_some _ (two_at r3) c e (λ hour e5 e.
    option_and_then_some _ (behind_mark 58 hour.1) c e (λ r4 m4 e.
    option_and_then_some _ (two_at r4) c e (λ minute e6 e.
    option_and_then_some _ (behind_mark 58 minute.1) c e (λ r5 m5 e.
    option_and_then_some _ (two_at r5) c e (λ second e7 e.
    let date : Civil = record { year = 100 * century.0 + year.0; month = month.0; day = day.0; hour = hour.0; minute = minute.0; second = second.0 } in
    let last = zulu-sound date second.1 c e in
    let s1 = two_at-sound w century e1 in
    let s2 = two_at-sound century.1 year e2 in
    let high : century.0 ≡ (100 * century.0 + year.0) / 100 = omega (arith, s1.0, s2.0) in
    let low : year.0 ≡ (100 * century.0 + year.0) % 100 = omega (arith, s1.0, s2.0) in
    subst (λ (d : Civil). (is_civil d ≡ true) × (w ≡ date_text d)) last.0 (
      last.1,
      cc (
        s1.1,
        s2.1,
        high,
        low,
        mark_at-sound 45 year.1 r1 m1,
        (two_at-sound r1 month e3).1,
        mark_at-sound 45 month.1 r2 m2,
        (two_at-sound r2 day e4).1,
        mark_at-sound 84 day.1 r3 m3,
        (two_at-sound r3 hour e5).1,
        mark_at-sound 58 hour.1 r4 m4,
        (two_at-sound r4 minute e6).1,
        mark_at-sound 58 minute.1 r5 m5,
        (two_at-sound r5 second e7).1,
        last.2,
      ),
    )))))))))))))

pub text_at-again : (c : Civil) → is_civil c ≡ true → text_at (date_text c) ≡ Some c
unfolding text_at date_text
text_at-again c e =
    let ranges = civil_ranges c e in
    let same : 100 * (c.year / 100) + c.year % 100 ≡ c.year = omega arith in
    rw (two_at-again (c.year / 100) _ (omega (arith, ranges.year)))
    (rw (two_at-again (c.year % 100) _ (omega arith))
    (rw (two_at-again c.month _ (omega (arith, ranges.month)))
    (rw (two_at-again c.day _ (omega (arith, ranges.day)))
    (rw (two_at-again c.hour _ (omega (arith, ranges.hour)))
    (rw (two_at-again c.minute _ (omega (arith, ranges.minute)))
    (rw (two_at-again c.second _ (omega (arith, ranges.second)))
    (rw same (zulu-again c e))))))))

counted_before : (c d : Civil) → is_civil c ≡ true → is_civil d ≡ true → day_count (pos c.year) c.month c.day < day_count (pos d.year) d.month d.day → unix_days c < unix_days d
unfolding unix_days
counted_before c d h k l =
    let a = day_count_is c.year c.month c.day (civil_ranges c h).from_year (date_is c h).2.0 in
    let b = day_count_is d.year d.month d.day (civil_ranges d k).from_year (date_is d k).2.0 in
    omega arith

-- The first date is on an earlier day.
day_before : (c d : Civil) → is_civil c ≡ true → unix_days c < unix_days d → unix_seconds c < unix_seconds d
unfolding unix_seconds
day_before c d h l =
    let r = civil_ranges c h in
    omega (arith, r.hour, r.minute, r.second)

year_before : (c d : Civil) → is_civil c ≡ true → is_civil d ≡ true → c.year < d.year → unix_seconds c < unix_seconds d
year_before c d h k l =
    let count = day_count-lt_year (pos c.year) c.month c.day (pos d.year) d.month d.day (date_is c h) (date_is d k).2.0 (omega (arith, signed_arith)) in
    day_before c d h (counted_before c d h k count)

month_before : (c d : Civil) → is_civil c ≡ true → is_civil d ≡ true → c.year ≡ d.year → c.month < d.month → unix_seconds c < unix_seconds d
month_before c d h k y l =
    let count = day_count-lt_month (pos c.year) c.month c.day d.month d.day (date_is c h) (date_is d k).2.0 l in
    let P : ℕ → Type 0 = λ n. day_count (pos c.year) c.month c.day < day_count (pos n) d.month d.day in
    day_before c d h (counted_before c d h k (subst P y count))

earlier_days : (c d : Civil) → is_civil c ≡ true → is_civil d ≡ true → c.year ≡ d.year → c.month ≡ d.month → c.day < d.day → unix_days c < unix_days d
unfolding unix_days
earlier_days c d h k y m l =
    let years : days_of_years (c.year - 1970) ≡ days_of_years (d.year - 1970) = ap (λ n. days_of_years (n - 1970)) y in
    let months : days_of_months c.year (c.month - 1) ≡ days_of_months d.year (d.month - 1) = λ i. days_of_months (y i) (m i - 1) in
    let first = (date_is c h).2.0 in
    omega arith

same_days : (c d : Civil) → c.year ≡ d.year → c.month ≡ d.month → c.day ≡ d.day → unix_days c ≡ unix_days d
unfolding unix_days
same_days c d y m e = λ i. days_of_years (y i - 1970) + days_of_months (y i) (m i - 1) + (e i - 1)

-- Both dates are on the same day, and their hours, minutes and seconds decide.
time_cmp : (c d : Civil) → is_civil c ≡ true → is_civil d ≡ true → unix_days c ≡ unix_days d
    → nat_cmp (unix_seconds c) (unix_seconds d) ≡ ordering_then (nat_cmp c.hour d.hour) (ordering_then (nat_cmp c.minute d.minute) (nat_cmp c.second d.second))
unfolding unix_seconds
time_cmp c d h k e =
    let r = civil_ranges c h in
    let q = civil_ranges d k in
    grind (arith, nat_tests, r.minute, r.second, q.minute, q.second)

pub seconds_cmp : (c d : Civil) → is_civil c ≡ true → is_civil d ≡ true → nat_cmp (unix_seconds c) (unix_seconds d) ≡ civil_cmp c d
seconds_cmp c d h k =
    let earlier = λ (y : c.year ≡ d.year) (m : c.month ≡ d.month) (l : c.day < d.day). day_before c d h (earlier_days c d h k y m l) in
    let later = λ (y : c.year ≡ d.year) (m : c.month ≡ d.month) (l : d.day < c.day). day_before d c k (earlier_days d c k h (sym y) (sym m) l) in
    let same = λ (y : c.year ≡ d.year) (m : c.month ≡ d.month) (e : c.day ≡ d.day). time_cmp c d h k (same_days c d y m e) in
    grind (arith, nat_tests, year_before c d h k, year_before d c k h, month_before c d h k, (λ (y : c.year ≡ d.year). month_before d c k h (sym y)), earlier, later, same)

civil_cmp-equal : (c d : Civil) → civil_cmp c d ≡ Equal → c ≡ d
civil_cmp-equal c d e =
    let year : c.year ≡ d.year = grind (arith, nat_tests) in
    let month : c.month ≡ d.month = grind (arith, nat_tests) in
    let day : c.day ≡ d.day = grind (arith, nat_tests) in
    let hour : c.hour ≡ d.hour = grind (arith, nat_tests) in
    let minute : c.minute ≡ d.minute = grind (arith, nat_tests) in
    let second : c.second ≡ d.second = grind (arith, nat_tests) in
    λ i. record { year = year i; month = month i; day = day i; hour = hour i; minute = minute i; second = second i }

pub one_by_seconds : (c d : Civil) → is_civil c ≡ true → is_civil d ≡ true → unix_seconds c ≡ unix_seconds d → c ≡ d
one_by_seconds c d h k e = civil_cmp-equal c d (sym (seconds_cmp c d h k) ∙ nat_cmp-same (unix_seconds c) (unix_seconds d) e)

pub one_by_text : (c d : Civil) → is_civil c ≡ true → is_civil d ≡ true → date_text c ≡ date_text d → c ≡ d
one_by_text c d h k e = same_Some c d (sym (text_at-again c h) ∙ ap text_at e ∙ text_at-again d k)
