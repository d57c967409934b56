-- The abstract value of a `DateTime`: a date and a time to the second.
use Rattle.std.specs.Prelude.{◌≡◌, true}
use Rattle.der_core.specs.Dates.{Civil, is_civil}
use Rattle.der_types_numbers.specs.declared.date_time.DateTime.TheInside.{Inside}

-- The abstract value.
abbrev pub civil_of : Inside → Civil
civil_of d =
    record {
      year = d.year;
      month = d.month;
      day = d.day;
      hour = d.hour;
      minute = d.minutes;
      second = d.seconds;
    }

-- The fields are a date and a time that exist.
abbrev pub IsDate : Inside → Type 0
IsDate d = is_civil (civil_of d) ≡ true

abbrev pub inside_of : Civil → Inside
inside_of c =
    record {
      year = c.year;
      month = c.month;
      day = c.day;
      hour = c.hour;
      minutes = c.minute;
      seconds = c.second;
    }
