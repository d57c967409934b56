-- Goals of `flag_set::number_of` that the checker doesn't prove by itself.
use Rattle.std.proofs.Common.{◌≡◌, ◌+◌, ◌-◌, length, drop, ap, sym, ◌∙◌, arith}
use Rattle.std.proofs.lemmas.List.{drop_all}
use Rattle.der_core.specs.NamedBits.{spelled_set}
use Rattle.der_types_values.proofs.NamedSteps.{spelled_set-none, spelled_set-before, room_more, number_more}
use Rattle.der_types_values.proofs.flag_set.number_of.Goals as goal

pub loop-count-init : goal.loop-count-init
loop-count-init c =
    let w = c.args.octets.now in
    record { value = spelled_set-none (drop (length w - 0) w) (drop_all (length w - 0) w (omega arith)); small = omega arith }

pub overflow_mul-number : goal.overflow_mul-number
overflow_mul-number c = omega (arith, room_more c.loop-count.number c.loop-count.count c.loop-count.invariant.small (omega arith))

pub overflow_add-number : goal.overflow_add-number
overflow_add-number c = omega (arith, room_more c.loop-count.number c.loop-count.count c.loop-count.invariant.small (omega arith))

pub loop-count-preserved : goal.loop-count-preserved
loop-count-preserved c =
    let w = c.args.octets.now in
    let i = length w - 1 - c.loop-count.count in
    let here : length w - (c.loop-count.count + 1) ≡ i = omega arith in
    let next : i + 1 ≡ length w - c.loop-count.count = omega arith in
    let before = spelled_set-before w i (omega arith) in
    let v : c.loop-count.number ≡ spelled_set (drop (i + 1) w) = c.loop-count.invariant.value ∙ ap (λ j. spelled_set (drop j w)) (sym next) in
    record { value = cc (before, here, v, c.from.ensures, c.reverse_bits.ensures); small = number_more c.loop-count.number c.from.result c.loop-count.count c.loop-count.invariant.small (omega arith) }
