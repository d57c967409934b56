-- Goals of `flag_set::ends_in_one` that the checker doesn't prove by itself.
use Rattle.std.proofs.Common.{◌-◌, length, get_or, refl, arith, ne_eqb}
use Rattle.der_types_values.proofs.NamedSteps.{ends}
use Rattle.der_types_values.proofs.flag_set.ends_in_one.Goals as goal

pub returns-then-last-ne0 : goal.returns-then-last-ne0
returns-then-last-ne0 c =
    let w = c.args.octets.now in
    rw (ends c.args.unused w (omega arith), ne_eqb (get_or w (length w - 1) 0) 0 c.if-last-ne0.true, c.from.ensures) refl
