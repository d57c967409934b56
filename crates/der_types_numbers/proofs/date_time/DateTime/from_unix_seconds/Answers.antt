-- Goals of `date_time::DateTime::from_unix_seconds` that the checker doesn't prove by itself.
use Rattle.std.proofs.Common.{◌≡◌, ◌/◌, ◌%◌, ℤ, pos, ◌≤ℤ◌, w64, arith, subst, sym, ◌∙◌, true}
use Rattle.std.proofs.lemmas.Int.{to_z_pos}
use Rattle.std.proofs.lemmas.Result.{IfOk-weaker}
use Rattle.jiff_core.specs.Calendar.{IsCivilDate, days_from_civil}
use Rattle.jiff_core.specs.Date.{epoch_day}
use Rattle.jiff_core.proofs.SignedLemmas.{signed_casts}
use Rattle.der_core.specs.Dates.{Civil, is_civil}
use Rattle.der_types_numbers.proofs.SecondsOrders.{civil_is, year_is, seconds_are}
use Rattle.der_types_numbers.proofs.date_time.DateTime.from_unix_seconds.Goals as goal

abbrev date_of : goal.After-new → Civil
date_of c = record { year = c.unsigned_year.result; month = c.in-Ok.date.month; day = c.in-Ok.date.day; hour = c.args.seconds % 86400 / 3600; minute = c.args.seconds % 86400 / 60 % 60; second = c.args.seconds % 86400 % 60 }

record Found (c : goal.After-new) : Type 0 where
  day : days_from_civil (pos c.unsigned_year.result) c.in-Ok.date.month c.in-Ok.date.day ≡ pos (c.args.seconds / 86400)
  civil : is_civil (date_of c) ≡ true

found : (c : goal.After-new) → Found c
found c =
    let d = c.in-Ok.date in
    let n = c.args.seconds in
    let is : epoch_day d ≡ pos (n / 86400) = c.in-Ok.ensures.value ∙ to_z_pos w64 (n / 86400) (omega arith) in
    let y = c.unsigned_year.ensures in
    let after : pos 0 ≤ℤ epoch_day d = omega (arith, signed_casts) in
    let low : pos 1970 ≤ℤ d.year = year_is d.year d.month d.day (d.year_in, d.month_in, d.day_in) after in
    let P : ℤ → Type 0 = λ k. IsCivilDate k d.month d.day in
    let date = subst P (sym y) (d.year_in, d.month_in, d.day_in) in
    let Q : ℤ → Type 0 = λ k. days_from_civil k d.month d.day ≡ pos (n / 86400) in
    record {
      day = subst Q (sym y) is;
      civil = civil_is (date_of c) date (omega (arith, signed_casts)) (omega arith) (omega arith) (omega arith);
    }

pub returns-clause-range : goal.returns-clause-range
returns-clause-range c = (λ _. omega arith, λ _. c.new.ensures.dates.1 (found c).civil)

pub returns-clause-ok : goal.returns-clause-ok
returns-clause-ok c =
    let f = found c in
    IfOk-weaker c.new.result _ _ (λ d e. rw e (seconds_are (date_of c) c.args.seconds f.civil f.day (omega arith))) c.new.ensures.ok
