-- Dates as text (RFC 3339 5.6, with whole seconds and in UTC).
use Rattle.std.specs.Prelude.{◌≡◌, ◌≢◌, ℕ, ◌+◌, ◌*◌, ◌/◌, ◌%◌, List, [], ◌∷◌, ◌++◌, true, Option}
use Rattle.std.specs.Prelude.{Some, None, Result, Ok, Err, ◌==◌, if◌then◌else◌, option_and_then}
use Rattle.der_core.specs.ErrorTypes.Error.{Error}
use Rattle.der_core.specs.ErrorTypes.ErrorKind.TheVariants as kinds
use Rattle.der_core.specs.Dates.{Civil, is_civil, two_digits, two_at, zulu}

-- A separator and two digits.
abbrev pub marked : ℕ → ℕ → List ℕ
marked m n = m ∷ two_digits n

-- YYYY-MM-DD.
abbrev pub day_text : Civil → List ℕ
day_text c = two_digits (c.year / 100)
    ++ (two_digits (c.year % 100) ++ (marked 45 c.month ++ marked 45 c.day))

-- THH:MM:SSZ.
abbrev pub time_text : Civil → List ℕ
time_text c = marked 84 c.hour ++ (marked 58 c.minute ++ (marked 58 c.second ++ (90 ∷ [])))

-- YYYY-MM-DDTHH:MM:SSZ.
unfoldable pub date_text : Civil → List ℕ
date_text c = day_text c ++ time_text c

-- Parsing returned the date of a text, or the error `DateTime` because no date has this text.
abbrev pub ReadsDate : List ℕ → Result Civil Error → Type 0
ReadsDate text (Ok d) = text ≡ date_text d
ReadsDate text (Err e) = (e.kind ≡ kinds.DateTime)
    × ((c : Civil) → is_civil c ≡ true → text ≢ date_text c)

-- The bytes after a separator.
abbrev pub behind_mark : ℕ → List ℕ → Option (List ℕ)
behind_mark m [] = None
behind_mark m (o ∷ w) = if o == m then Some w else None

-- Parses the time after a day, number by number.
abbrev pub time_at : ℕ → ℕ → ℕ → List ℕ → Option Civil
time_at year month day w =
    option_and_then
    (λ hour. option_and_then
    (λ r4. option_and_then (λ minute. option_and_then (λ r5. option_and_then (λ second.
    zulu
    (record {
      year = year;
      month = month;
      day = day;
      hour = hour.0;
      minute = minute.0;
      second = second.0;
    }) second.1)
    (two_at r5)) (behind_mark 58 minute.1)) (two_at r4)) (behind_mark 58 hour.1)) (two_at w)

-- Parses a day and the time after it, number by number.
unfoldable pub text_at : List ℕ → Option Civil
text_at w =
    option_and_then
    (λ century. option_and_then
    (λ year. option_and_then
    (λ r1. option_and_then (λ month. option_and_then (λ r2. option_and_then (λ day.
    option_and_then (λ r3. time_at (100 * century.0 + year.0) month.0 day.0 r3)
    (behind_mark 84 day.1)) (two_at r2)) (behind_mark 45 month.1)) (two_at r1))
    (behind_mark 45 year.1))
    (two_at century.1)) (two_at w)
