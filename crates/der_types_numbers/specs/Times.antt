-- The abstract values of `UtcTime` and `GeneralizedTime`, which are dates.
use Rattle.std.specs.Prelude.{◌≡◌, ◌<◌, ◌≤◌, Result, Ok, Err}
use Rattle.der_core.specs.ErrorTypes.Error.{Error}
use Rattle.der_core.specs.ErrorTypes.ErrorKind.TheVariants as kinds
use Rattle.der_core.specs.TagTypes.Tag.TheVariants as tags
use Rattle.der_core.specs.Dates.{Civil}
use Rattle.der_types_numbers.specs.declared.utc_time.UtcTime.TheInside.{Inside as UtcInside}
use Rattle.der_types_numbers.specs.declared.generalized_time.GeneralizedTime.TheInside.{Inside as GeneralizedInside}

abbrev pub utc_civil : UtcInside → Civil
utc_civil t = t.date_time

-- The date is one that UTCTime can represent.
abbrev pub IsUtcTime : UtcInside → Type 0
IsUtcTime t = t.date_time.year ≤ 2049

abbrev pub utc_of : Civil → UtcInside
utc_of c = record { date_time = c }

abbrev pub generalized_civil : GeneralizedInside → Civil
generalized_civil t = t.date_time

abbrev pub generalized_of : Civil → GeneralizedInside
generalized_of c = record { date_time = c }

-- The UTCTime of a date, or the error `Value` if the year is after 2049.
abbrev pub MakesUtcTime : Civil → Result Civil Error → Type 0
MakesUtcTime date (Ok t) = (t ≡ date) × (date.year ≤ 2049)
MakesUtcTime date (Err e) = (e.kind ≡ kinds.Value tags.UtcTime) × (2049 < date.year)
