-- Seconds since 1970-01-01T00:00:00Z without leap seconds, which POSIX calls "seconds since the
-- Epoch".
use Rattle.std.specs.Prelude.{ℕ, zero, suc, ◌+◌, ◌-◌, ◌*◌, if◌then◌else◌}
use Rattle.der_core.specs.Dates.{Civil, is_leap, days_in_month}

-- The number of days of the first `n` years from 1970 on.
abbrev pub days_of_years : ℕ → ℕ
days_of_years zero = 0
days_of_years (suc n) = days_of_years n + (if is_leap (1970 + n) then 366 else 365)

-- The number of days of the first `n` months of a year.
abbrev pub days_of_months : ℕ → ℕ → ℕ
days_of_months year zero = 0
days_of_months year (suc n) = days_of_months year n + days_in_month year (1 + n)

-- The last second of the year 9999.
abbrev pub last_second : ℕ
last_second = 253402300799

-- The number of days from 1970-01-01 to a date.
unfoldable pub unix_days : Civil → ℕ
unix_days c = days_of_years (c.year - 1970) + days_of_months c.year (c.month - 1) + (c.day - 1)

-- The number of seconds from 1970-01-01T00:00:00Z to a date.
unfoldable pub unix_seconds : Civil → ℕ
unix_seconds c = 86400 * unix_days c + 3600 * c.hour + 60 * c.minute + c.second
