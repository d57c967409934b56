-- The value of type Time for a date or a text.
use Rattle.std.specs.Prelude.{◌≡◌, ◌≢◌, ℕ, List, true, Result, Ok, Err}
use Rattle.std.proofs.Common.{inr}
use Rattle.der_core.specs.ErrorTypes.Error.{Error}
use Rattle.der_core.specs.ErrorTypes.ErrorKind.TheVariants as kinds
use Rattle.der_core.specs.Dates.{Civil, is_civil}
use Rattle.der_types.specs.DateTexts.{date_text}
use Rattle.x509_cert_parts.specs.Grammar.{PlainTime}
use Rattle.x509_cert_parts.specs.Respelling.{respelled}
use Rattle.x509_cert_parts.specs.Views.{time_value, time_date}
use Rattle.x509_cert_parts.specs.declared.time.Time.{Time}

-- The date in the encoding that RFC 5280 4.1.2.5 requires.
abbrev pub time_of : Civil → PlainTime
time_of c = respelled (inr c)

-- 9999-12-31T23:59:59Z, the notAfter of a certificate without an expiration date (RFC 5280
-- 4.1.2.5).
abbrev pub without_end : PlainTime
without_end =
    inr (record { year = 9999; month = 12; day = 31; hour = 23; minute = 59; second = 59 })

-- Parsing a date: the time of its date, or the error DateTime if the text isn't a valid date.
abbrev pub ReadsTime : List ℕ → Result Time Error → Type 0
ReadsTime text (Ok t) = (text ≡ date_text (time_date t)) × (time_value t ≡ time_of (time_date t))
ReadsTime text (Err e) = (e.kind ≡ kinds.DateTime)
    × ((c : Civil) → is_civil c ≡ true → text ≢ date_text c)
