-- Dates and times in UTC, to the second, from 1970 to 9999 (X.690 11.7, 11.8; RFC 5280 4.1.2.5).
use Rattle.std.specs.Prelude.{◌≡◌, ℕ, ◌+◌, ◌-◌, ◌*◌, ◌/◌, ◌%◌, ◌≤◌, List, [], ◌∷◌, ◌++◌, Bool, true}
use Rattle.std.specs.Prelude.{not, Option, Some, None, Result, Ok, Err, nat_lt, nat_le, ◌==◌, ◌&&◌}
use Rattle.std.specs.Prelude.{◌||◌, if◌then◌else◌, option_and_then}
use Rattle.der_core_head.specs.declared.error.ErrorKind.{ErrorKind}
use Rattle.der_core_head.specs.declared.error.ErrorKind.TheVariants as kinds
use Rattle.der_core_head.specs.declared.tag.Tag.{Tag}

-- A date and a time of day in UTC.
pub record Civil : Type 0 where
  pub year : ℕ
  pub month : ℕ
  pub day : ℕ
  pub hour : ℕ
  pub minute : ℕ
  pub second : ℕ

-- A leap year: divisible by 4, but divisible by 100 only if it is divisible by 400.
abbrev pub is_leap : ℕ → Bool
is_leap y = ((y % 4) == 0) && (not ((y % 100) == 0) || ((y % 400) == 0))

-- The number of days of a month.
abbrev pub days_in_month : ℕ → ℕ → ℕ
days_in_month y m =
    if m == 2 then (if is_leap y then 29 else 28)
    else if (m == 4) || ((m == 6) || ((m == 9) || (m == 11))) then 30
    else 31

-- A day of the calendar from 1970 to 9999, and a time of day. Leap seconds are excluded.
abbrev pub is_civil : Civil → Bool
is_civil c =
    (nat_le 1970 c.year && nat_lt c.year 10000) && ((nat_le 1 c.month && nat_le c.month 12)
    && ((nat_le 1 c.day && nat_le c.day (days_in_month c.year c.month))
    && (nat_lt c.hour 24 && (nat_lt c.minute 60 && nat_lt c.second 60))))

-- A number below 100 as two decimal digits in ASCII.
abbrev pub two_digits : ℕ → List ℕ
two_digits n = (48 + n / 10) ∷ (48 + n % 10) ∷ []

-- MMDDHHMMSSZ.
abbrev pub after_year : Civil → List ℕ
after_year c =
    two_digits c.month
    ++ (two_digits c.day
    ++ (two_digits c.hour ++ (two_digits c.minute ++ (two_digits c.second ++ (90 ∷ [])))))

-- YYMMDDHHMMSSZ.
unfoldable pub utc_octets : Civil → List ℕ
utc_octets c = two_digits (c.year % 100) ++ after_year c

-- YYYYMMDDHHMMSSZ.
unfoldable pub generalized_octets : Civil → List ℕ
generalized_octets c = two_digits (c.year / 100) ++ (two_digits (c.year % 100) ++ after_year c)

-- The year of two digits in UTCTime (RFC 5280 4.1.2.5.1): 00 to 49 are 2000 to 2049, and 50 to 99
-- are 1950 to 1999.
abbrev pub full_year : ℕ → ℕ
full_year y = if nat_lt y 50 then 2000 + y else 1900 + y

-- The value of a decimal digit in ASCII.
abbrev pub digit_at : ℕ → Option ℕ
digit_at d = if nat_le 48 d && nat_le d 57 then Some (d - 48) else None

-- The value of two decimal digits, and the bytes after them.
abbrev pub two_at : List ℕ → Option (ℕ × List ℕ)
two_at (a ∷ b ∷ w) = option_and_then (λ x. option_and_then (λ y. Some (10 * x + y, w)) (digit_at b))
    (digit_at a)
two_at w = None

-- Accepts the date if the remaining byte is `Z` and the date exists.
abbrev pub zulu : Civil → List ℕ → Option Civil
zulu c (z ∷ []) = if (z == 90) && is_civil c then Some c else None
zulu c w = None

-- Decodes MMDDHHMMSSZ.
unfoldable pub civil_at : ℕ → List ℕ → Option Civil
civil_at year w =
    option_and_then
    (λ month. option_and_then
    (λ day. option_and_then (λ hour. option_and_then (λ minute. option_and_then (λ second.
    zulu (record {
      year = year;
      month = month.0;
      day = day.0;
      hour = hour.0;
      minute = minute.0;
      second = second.0;
    }) second.1)
    (two_at minute.1)) (two_at hour.1)) (two_at day.1)) (two_at month.1)) (two_at w)

-- The error `Value` takes the place of `None`.
abbrev pub or_value : {A : Type 0} → Tag → Option A → Result A ErrorKind
or_value t (Some x) = Ok x
or_value t None = Err (kinds.Value t)

-- Decodes the content of a UTCTime (X.690 11.8).
unfoldable pub utc_read : Tag → List ℕ → Result Civil ErrorKind
utc_read t w = or_value t (option_and_then (λ y. civil_at (full_year y.0) y.1) (two_at w))

-- Decodes the content of a GeneralizedTime (X.690 11.7).
unfoldable pub generalized_read : Tag → List ℕ → Result Civil ErrorKind
generalized_read t w =
    or_value t
    (option_and_then (λ c. option_and_then (λ y. civil_at (100 * c.0 + y.0) y.1) (two_at c.1))
    (two_at w))

-- A date that UTCTime can represent.
pub record IsUtc (c : Civil) : Type 0 where
  pub civil : is_civil c ≡ true
  pub year : c.year ≤ 2049
