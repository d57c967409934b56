-- Goals of `reasons::first_wrong` that the checker doesn't prove by itself.
use Rattle.std.proofs.Common.{take, drop_of_length-le, ap, sym, ◌∙◌}
use Rattle.cert_desk_orders.specs.OrderReading.{lines_plain}
use Rattle.cert_desk_orders.specs.Reasons.{first_wrong}
use Rattle.cert_desk_orders.proofs.reasons.first_wrong.Goals as goal

pub returns : goal.returns
returns c =
    ap (λ rest. first_wrong (lines_plain (take c.loop-index.index c.args.lines.now)) (lines_plain rest)) (sym (drop_of_length-le c.args.lines.now c.loop-index-test.false))
    ∙ c.loop-index.invariant
