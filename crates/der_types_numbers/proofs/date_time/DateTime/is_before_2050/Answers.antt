-- Goals of `date_time::DateTime::is_before_2050` that the checker doesn't prove by itself.
use Rattle.std.proofs.Common.{◌<◌, IsTrue, subst, arith, ltb, ◌↔◌, ltb-true, lt-ltb}
use Rattle.der_core.specs.Dates.{Civil}
use Rattle.der_types_numbers.specs.Seconds.{unix_seconds}
use Rattle.der_types_numbers.specs.DateTimes.{civil_of}
use Rattle.der_types_numbers.proofs.SecondsOrders.{utc_seconds}
use Rattle.der_types_numbers.proofs.date_time.DateTime.is_before_2050.Goals as goal

pub returns-clause-seconds : goal.returns-clause-seconds
returns-clause-seconds c =
    let d = civil_of c.self.inside in
    let both = utc_seconds d c.self.invariant in
    subst (λ (k : Civil). IsTrue (ltb d.year 2050) ↔ (unix_seconds k < 2524608000)) c.self.view_is (
      λ t. both.0 (let small = ltb-true d.year 2050 t in omega arith),
      λ h. lt-ltb d.year 2050 (let small = both.1 h in omega arith),
    )
