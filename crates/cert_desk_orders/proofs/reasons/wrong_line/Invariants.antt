-- The loop invariant of `reasons::wrong_line`: the first wrong order is among the remaining ones.
use Rattle.std.proofs.Common.{◌≡◌, drop, map}
use Rattle.cert_desk_orders.specs.OrderReading.{lines_plain}
use Rattle.cert_desk_orders.specs.Reasons.{first_wrong_order, wrong_line}
use Rattle.cert_desk_orders.proofs.reasons.wrong_line.Given as goal

abbrev pub invariant-loop-order : goal.invariant-loop-order
invariant-loop-order l = first_wrong_order (map (λ order. lines_plain order.now) (drop l.order-index l.order-items)) ≡ wrong_line l.octets
