-- The loop invariant of `reasons::first_wrong`: the first wrong line is among the remaining ones.
use Rattle.std.proofs.Common.{◌≡◌, take, drop, []}
use Rattle.cert_desk_orders.specs.OrderReading.{lines_plain}
use Rattle.cert_desk_orders.specs.Reasons.{first_wrong}
use Rattle.cert_desk_orders.proofs.reasons.first_wrong.Given as goal

abbrev pub invariant-loop-index : goal.invariant-loop-index
invariant-loop-index l = first_wrong (lines_plain (take l.index l.lines)) (lines_plain (drop l.index l.lines)) ≡ first_wrong [] (lines_plain l.lines)
