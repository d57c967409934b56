-- Goals of `date_time::unsigned_year` that the checker doesn't prove by itself.
use Rattle.std.proofs.Common.{arith, pos, ◌≤ℤ◌}
use Rattle.jiff_core.proofs.SignedLemmas.{signed_casts}
use Rattle.der_types_numbers.proofs.SecondsOrders.{year_is}
use Rattle.der_types_numbers.proofs.date_time.unsigned_year.Goals as goal

pub overflow_cast-result : goal.overflow_cast-result
overflow_cast-result c =
    let d = c.args.date in
    let low : pos 1970 ≤ℤ d.year = year_is d.year d.month d.day (d.year_in, d.month_in, d.day_in) c.requires in
    let high = d.year_in.1 in
    (omega (arith, signed_casts), omega (arith, signed_casts))

pub returns : goal.returns
returns c =
    let d = c.args.date in
    let low : pos 1970 ≤ℤ d.year = year_is d.year d.month d.day (d.year_in, d.month_in, d.day_in) c.requires in
    let high = d.year_in.1 in
    omega (arith, signed_casts)
