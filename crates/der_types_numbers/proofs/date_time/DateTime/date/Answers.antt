-- Goals of `date_time::DateTime::date` that the checker doesn't prove by itself.
use Rattle.std.proofs.Common.{◌≡◌, w16, ℤ, pos, arith, subst, sym, ◌∙◌, ap, to_z}
use Rattle.jiff_core.specs.Calendar.{IsCivilDate, days_from_civil}
use Rattle.std.proofs.lemmas.Int.{to_z_pos}
use Rattle.der_core.proofs.TextLaws.{civil_ranges}
use Rattle.der_types_numbers.specs.Seconds.{unix_days}
use Rattle.der_types_numbers.specs.DateTimes.{civil_of}
use Rattle.der_types_numbers.proofs.SecondsOrders.{date_is, unix_day_number}
use Rattle.der_types_numbers.proofs.date_time.DateTime.date.Goals as goal

pub invariant_of-result : goal.invariant_of-result
invariant_of-result c =
    let d = civil_of c.self.inside in
    let r = civil_ranges d c.self.invariant in
    let e : to_z w16 d.year ≡ pos d.year = to_z_pos w16 d.year (omega arith) in
    let P : ℤ → Type 0 = λ k. IsCivilDate k d.month d.day in
    let p = subst P (sym e) (date_is d c.self.invariant) in
    record { year_in = p.0; month_in = p.1; day_in = p.2 }

pub returns : goal.returns
returns c =
    let d = civil_of c.self.inside in
    let r = civil_ranges d c.self.invariant in
    let e : to_z w16 d.year ≡ pos d.year = to_z_pos w16 d.year (omega arith) in
    let P : ℤ → Type 0 = λ k. days_from_civil k d.month d.day ≡ pos (unix_days c.args.self.now) in
    subst P (sym e) (unix_day_number d c.self.invariant ∙ ap (λ k. pos (unix_days k)) c.self.view_is)
