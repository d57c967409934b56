-- Lemmas about the contents of texts and of dates: the content of a value decodes to it, and a
-- decoded content is that of the result.
use Rattle.std.proofs.lemmas.Bool.Decides.{nat_tests}
use Rattle.std.proofs.Common.{◌≡◌, ℕ, zero, suc, ◌<◌, Bool, true, refl, List, [], ◌∷◌, Ok, Err, subst, arith, ⊎_elim, ◌==◌, nat_lt, ◌+◌, ◌*◌, ◌/◌, ◌%◌, ap, sym, ◌∙◌, ◌&&◌, false, ◌≤◌, ◌++◌, Option, Some, None, option_and_then}
use Rattle.std.specs.List.{list_all, list_any}
use Rattle.std.specs.Char.{is_ascii_alphanumeric}
use Rattle.std.specs.Str.{is_utf8, IsAscii, IsUtf8}
use Rattle.std.proofs.lemmas.Bool.{cond-true, and_parts, or_cases, false≢true}
use Rattle.der_core_head.specs.declared.error.ErrorKind.TheVariants as kinds
use Rattle.der_core_head.specs.declared.tag.Tag.{Tag}
use Rattle.der_core_head.specs.Texts.{Repertoire, printable, numeric, visible, printable_signs, is_within, IsText, text_read, IsUtf8Text, utf8_read}
use Rattle.der_core_head.proofs.Results.{fine, IsBytes, octets_are, ok_is, if_ok}
use Rattle.der_core_head.specs.Octets.{IsOctets}
use Rattle.der_core_head.specs.BmpStrings.{is_unit, IsBmp, bmp_octets, are_pairs, units, bmp_read}
use Rattle.std.proofs.lemmas.Str.{IsUtf8-from_is_utf8, is_utf8-from_IsUtf8}
use Rattle.std.proofs.lemmas.Option.{option_and_then_some, same_Some}
use Rattle.der_core_head.specs.Dates.{Civil, days_in_month, is_civil, two_digits, after_year, utc_octets, generalized_octets, full_year, digit_at, two_at, zulu, civil_at, or_value, utc_read, generalized_read, IsUtc}

-- Character strings

pub text_sound : (r : Repertoire) (t : Tag) (w v : List ℕ) → IsBytes w → text_read r t w ≡ Ok v → IsText r v × (w ≡ v)
unfolding text_read
text_sound r t w v h e =
    let same : w ≡ v = grind (arith, nat_tests) in
    (subst (IsText r) same (record { within = grind (arith, nat_tests); octets = octets_are w h }), same)

pub text_again : (r : Repertoire) (t : Tag) (v : List ℕ) → IsText r v → text_read r t v ≡ Ok v
unfolding text_read
text_again r t v h = cond-true (list_all (is_within r) v) (fine v) (Err (kinds.Value t)) h.within

pub utf8_sound : (w v : List ℕ) → IsBytes w → utf8_read w ≡ Ok v → IsUtf8Text v × (w ≡ v)
unfolding utf8_read
utf8_sound w v h e =
    let same : w ≡ v = grind (arith, nat_tests) in
    (subst IsUtf8Text same (record { utf8 = grind (arith, nat_tests); octets = octets_are w h }), same)

pub utf8_again : (v : List ℕ) → IsUtf8Text v → utf8_read v ≡ Ok v
unfolding utf8_read
utf8_again v h = cond-true (is_utf8 v) (fine v) (Err kinds.Utf8) h.utf8

-- Texts of printable or ASCII bytes are UTF-8

signs_below : (n b : ℕ) (cs : List ℕ) → list_all (λ c. nat_lt c n) cs ≡ true → list_any (λ c. c == b) cs ≡ true → b < n
signs_below n b [] below e = absurd (false≢true e)
signs_below n b (c ∷ cs) below e = grind (arith, nat_tests, signs_below n b cs)

pub printable_below : (b : ℕ) → is_within printable b ≡ true → b < 128
printable_below b e =
    ⊎_elim letters (signs_below 128 b printable_signs refl) (or_cases (is_ascii_alphanumeric b) (list_any (λ c. c == b) printable_signs) e)
  where
    letters : is_ascii_alphanumeric b ≡ true → b < 128
    letters f = grind (arith, nat_tests)

pub numeric_below : (b : ℕ) → is_within numeric b ≡ true → b < 128
numeric_below b e = grind (arith, nat_tests)

pub visible_below : (b : ℕ) → is_within visible b ≡ true → b < 128
visible_below b e = grind (arith, nat_tests)

pub all_ascii : (p : ℕ → Bool) (w : List ℕ) → ((b : ℕ) → p b ≡ true → b < 128) → list_all p w ≡ true → IsAscii w
all_ascii p [] below e i = omega arith
all_ascii p (b ∷ w) below e zero = below b (and_parts (p b) (list_all p w) e).0
all_ascii p (b ∷ w) below e (suc i) = all_ascii p w below (and_parts (p b) (list_all p w) e).1 i

-- BMPString

unit_below : (u : ℕ) → is_unit u ≡ true → u < 65536
unit_below u e = grind (arith, nat_tests)

-- Pairs of bytes are the encoding of their characters.
pub bmp_octets-units : (w : List ℕ) → IsOctets w → are_pairs w ≡ true → bmp_octets (units w) ≡ w
unfolding bmp_octets
bmp_octets-units [] h e = refl
bmp_octets-units (a ∷ []) h e = absurd cc
bmp_octets-units (a ∷ b ∷ w) h e =
    let high : (256 * a + b) / 256 ≡ a = omega (arith, h.0, h.1.0) in
    let low : (256 * a + b) % 256 ≡ b = omega (arith, h.0, h.1.0) in
    cc (high, low, bmp_octets-units w h.1.1 e)

pub are_pairs-octets : (us : List ℕ) → are_pairs (bmp_octets us) ≡ true
unfolding bmp_octets
are_pairs-octets [] = refl
are_pairs-octets (u ∷ us) = are_pairs-octets us

pub units-octets : (us : List ℕ) → units (bmp_octets us) ≡ us
unfolding bmp_octets
units-octets [] = refl
units-octets (u ∷ us) =
    let same : 256 * (u / 256) + u % 256 ≡ u = omega arith in
    cc (same, units-octets us)

pub bmp_below : (us : List ℕ) → IsBmp us → IsOctets (bmp_octets us)
unfolding bmp_octets
bmp_below [] h = tt
bmp_below (u ∷ us) h =
    let parts = and_parts (is_unit u) (list_all is_unit us) h in
    let small = unit_below u parts.0 in
    (omega arith, (omega arith, bmp_below us parts.1))

pub bmp_sound : (t : Tag) (w us : List ℕ) → IsBytes w → bmp_read t w ≡ Ok us → IsBmp us × (w ≡ bmp_octets us)
unfolding bmp_read
bmp_sound t w us h e =
    let parts = if_ok (are_pairs w && list_all is_unit (units w)) (kinds.Value t) (fine (units w)) us e in
    let tests = and_parts (are_pairs w) (list_all is_unit (units w)) parts.0 in
    let same = ok_is (units w) us parts.1 in
    (subst IsBmp same tests.1, sym (bmp_octets-units w (octets_are w h) tests.0) ∙ ap bmp_octets same)

pub bmp_again : (t : Tag) (us : List ℕ) → IsBmp us → bmp_read t (bmp_octets us) ≡ Ok us
unfolding bmp_read
bmp_again t us h = grind (arith, nat_tests, units-octets us, are_pairs-octets us)

-- UTF-8

pub is_text : (w : List ℕ) → IsUtf8 w → is_utf8 w ≡ true
is_text = is_utf8-from_IsUtf8

is_none : (w : List ℕ) → ¬ (IsUtf8 w) → is_utf8 w ≡ false
is_none w h = grind (arith, IsUtf8-from_is_utf8 w)

pub utf8_read-ok : (w : List ℕ) → IsUtf8 w → utf8_read w ≡ Ok w
unfolding utf8_read
utf8_read-ok w h = rw (is_text w h) refl

pub utf8_read-err : (w : List ℕ) → ¬ (IsUtf8 w) → utf8_read w ≡ Err kinds.Utf8
unfolding utf8_read
utf8_read-err w h = rw (is_none w h) refl

pub ruleset utf8_reads = (is_text, utf8_read-ok, utf8_read-err)

-- Dates

-- Two digits

digit_at-again : (x : ℕ) → x < 10 → digit_at (48 + x) ≡ Some x
digit_at-again x l = grind (arith, nat_tests)

digit_at-sound : (d x : ℕ) → digit_at d ≡ Some x → (x < 10) × (d ≡ 48 + x)
digit_at-sound d x e = grind (arith, nat_tests)

pub two_at-again : (n : ℕ) (w : List ℕ) → n < 100 → two_at (two_digits n ++ w) ≡ Some (n, w)
two_at-again n w l =
    let same : 10 * (n / 10) + n % 10 ≡ n = omega arith in
    rw (digit_at-again (n / 10) (omega arith), digit_at-again (n % 10) (omega arith), same) refl

pub two_at-sound : (w : List ℕ) (p : ℕ × List ℕ) → two_at w ≡ Some p → (p.0 < 100) × (w ≡ two_digits p.0 ++ p.1)
two_at-sound (a ∷ b ∷ w) p e =
    option_and_then_some (λ x. option_and_then (λ y. Some (10 * x + y, w)) (digit_at b)) (digit_at a) p e
    (λ x is_x later. option_and_then_some (λ y. Some (10 * x + y, w)) (digit_at b) p later
    (λ y is_y pair.
    let first = digit_at-sound a x is_x in
    let second = digit_at-sound b y is_y in
    let high : (10 * x + y) / 10 ≡ x = omega (arith, first.0, second.0) in
    let low : (10 * x + y) % 10 ≡ y = omega (arith, first.0, second.0) in
    subst (λ (q : ℕ × List ℕ). (q.0 < 100) × (a ∷ b ∷ w ≡ two_digits q.0 ++ q.1)) (same_Some (10 * x + y, w) p pair)
    (omega (arith, first.0, second.0), cc (first.1, second.1, high, low))))
two_at-sound _ p e = absurd cc

two_digits_below : (n : ℕ) (w : List ℕ) → n < 100 → IsOctets w → IsOctets (two_digits n ++ w)
two_digits_below n w l h = (omega arith, (omega arith, h))

-- The ranges of a date's parts

days_in_month-le : (y m : ℕ) → days_in_month y m ≤ 31
days_in_month-le y m = grind (arith, nat_tests)

pub record Ranges (c : Civil) : Type 0 where
  pub from_year : 1970 ≤ c.year
  pub year : c.year < 10000
  pub month : c.month ≤ 12
  pub day : c.day ≤ 31
  pub hour : c.hour < 24
  pub minute : c.minute < 60
  pub second : c.second < 60

pub civil_ranges : (c : Civil) → is_civil c ≡ true → Ranges c
civil_ranges c e =
    let days = days_in_month-le c.year c.month in
    record {
      from_year = grind (arith, nat_tests);
      year = grind (arith, nat_tests);
      month = grind (arith, nat_tests);
      day = grind (arith, nat_tests);
      hour = grind (arith, nat_tests);
      minute = grind (arith, nat_tests);
      second = grind (arith, nat_tests);
    }

-- The bytes after the year

pub zulu-sound : (c : Civil) (w : List ℕ) (d : Civil) → zulu c w ≡ Some d → (c ≡ d) × (is_civil c ≡ true) × (w ≡ 90 ∷ [])
zulu-sound c (z ∷ []) d e = grind (arith, nat_tests)
zulu-sound c _ d e = absurd cc

pub zulu-again : (c : Civil) → is_civil c ≡ true → zulu c (90 ∷ []) ≡ Some c
zulu-again c e = cond-true (is_civil c) (Some c) None e

civil_at-sound : (year : ℕ) (w : List ℕ) (c : Civil) → civil_at year w ≡ Some c → (c.year ≡ year) × (is_civil c ≡ true) × (w ≡ after_year c)
unfolding civil_at
civil_at-sound year w c e =
    option_and_then_some _ (two_at w) c e (λ month is_month e.
    option_and_then_some _ (two_at month.1) c e (λ day is_day e.
    option_and_then_some _ (two_at day.1) c e (λ hour is_hour e.
    option_and_then_some _ (two_at hour.1) c e (λ minute is_minute e.
    option_and_then_some _ (two_at minute.1) c e (λ second is_second e.
    let date : Civil = record { year = year; month = month.0; day = day.0; hour = hour.0; minute = minute.0; second = second.0 } in
    let last = zulu-sound date second.1 c e in
    subst (λ (d : Civil). (d.year ≡ year) × (is_civil d ≡ true) × (w ≡ after_year d)) last.0 (
      refl,
      last.1,
      cc ((two_at-sound w month is_month).1, (two_at-sound month.1 day is_day).1, (two_at-sound day.1 hour is_hour).1, (two_at-sound hour.1 minute is_minute).1, (two_at-sound minute.1 second is_second).1, last.2),
    ))))))

civil_at-again : (c : Civil) → is_civil c ≡ true → civil_at c.year (after_year c) ≡ Some c
unfolding civil_at
civil_at-again c e =
    let ranges = civil_ranges c e in
    rw (two_at-again c.month _ (omega (arith, ranges.month)))
    (rw (two_at-again c.day _ (omega (arith, ranges.day)))
    (rw (two_at-again c.hour _ (omega (arith, ranges.hour)))
    (rw (two_at-again c.minute _ (omega (arith, ranges.minute)))
    (rw (two_at-again c.second _ (omega (arith, ranges.second)))
    (zulu-again c e)))))

after_year_below : (c : Civil) → is_civil c ≡ true → IsOctets (after_year c)
after_year_below c e =
    let r = civil_ranges c e in
    (omega (arith, r.month), (omega (arith, r.month), (omega (arith, r.day), (omega (arith, r.day), (omega (arith, r.hour), (omega (arith, r.hour), (omega (arith, r.minute), (omega (arith, r.minute), (omega (arith, r.second), (omega (arith, r.second), (omega arith, tt)))))))))))

or_value_ok : {A : Type 0} (t : Tag) (o : Option A) (x : A) → or_value t o ≡ Ok x → o ≡ Some x
or_value_ok t o x e = grind (arith, nat_tests)

-- The year of UTCTime

full_year-again : (y : ℕ) → 1970 ≤ y → y ≤ 2049 → full_year (y % 100) ≡ y
full_year-again y low high = grind (arith, nat_tests)

full_year-sound : (n : ℕ) → n < 100 → (full_year n % 100 ≡ n) × (full_year n ≤ 2049)
full_year-sound n l = grind (arith, nat_tests)

-- UTCTime and GeneralizedTime

pub utc_sound : (t : Tag) (w : List ℕ) (c : Civil) → utc_read t w ≡ Ok c → IsUtc c × (w ≡ utc_octets c)
unfolding utc_read utc_octets
utc_sound t w c e =
    option_and_then_some (λ y. civil_at (full_year y.0) y.1) (two_at w) c (or_value_ok t _ c e) (λ y is_y later.
    let digits = two_at-sound w y is_y in
    let rest = civil_at-sound (full_year y.0) y.1 c later in
    let year = full_year-sound y.0 digits.0 in
    let low : c.year % 100 ≡ y.0 = ap (λ n. n % 100) rest.0 ∙ year.0 in (
      record { civil = rest.1; year = omega (arith, year.1, rest.0) },
      digits.1 ∙ ap (λ r. two_digits y.0 ++ r) rest.2 ∙ ap (λ n. two_digits n ++ after_year c) (sym low),
    ))

pub utc_again : (t : Tag) (c : Civil) → IsUtc c → utc_read t (utc_octets c) ≡ Ok c
unfolding utc_read utc_octets
utc_again t c h =
    let ranges = civil_ranges c h.civil in
    rw (two_at-again (c.year % 100) (after_year c) (omega arith), full_year-again c.year ranges.from_year h.year, civil_at-again c h.civil) refl

pub utc_octets-below : (c : Civil) → IsUtc c → IsOctets (utc_octets c)
unfolding utc_octets
utc_octets-below c h = two_digits_below (c.year % 100) (after_year c) (omega arith) (after_year_below c h.civil)

pub generalized_sound : (t : Tag) (w : List ℕ) (c : Civil) → generalized_read t w ≡ Ok c → (is_civil c ≡ true) × (w ≡ generalized_octets c)
unfolding generalized_read generalized_octets
generalized_sound t w c e =
    option_and_then_some _ (two_at w) c (or_value_ok t _ c e) (λ h is_h later.
    option_and_then_some (λ y. civil_at (100 * h.0 + y.0) y.1) (two_at h.1) c later (λ y is_y last.
    let century = two_at-sound w h is_h in
    let digits = two_at-sound h.1 y is_y in
    let rest = civil_at-sound (100 * h.0 + y.0) y.1 c last in
    let high : c.year / 100 ≡ h.0 = omega (arith, rest.0, century.0, digits.0) in
    let low : c.year % 100 ≡ y.0 = omega (arith, rest.0, century.0, digits.0) in
    (rest.1, cc (century.1, digits.1, rest.2, high, low))))

pub generalized_again : (t : Tag) (c : Civil) → is_civil c ≡ true → generalized_read t (generalized_octets c) ≡ Ok c
unfolding generalized_read generalized_octets
generalized_again t c h =
    let ranges = civil_ranges c h in
    let same : 100 * (c.year / 100) + c.year % 100 ≡ c.year = omega arith in
    rw (two_at-again (c.year / 100) (two_digits (c.year % 100) ++ after_year c) (omega (arith, ranges.year)), two_at-again (c.year % 100) (after_year c) (omega arith), same, civil_at-again c h) refl

pub generalized_octets-below : (c : Civil) → is_civil c ≡ true → IsOctets (generalized_octets c)
unfolding generalized_octets
generalized_octets-below c h =
    let ranges = civil_ranges c h in
    two_digits_below (c.year / 100) (two_digits (c.year % 100) ++ after_year c) (omega (arith, ranges.year)) (two_digits_below (c.year % 100) (after_year c) (omega arith) (after_year_below c h))
