-- The loop invariant of `orders_file::grouped`: the orders so far, followed by those of the
-- remaining lines, are all orders.
use Rattle.std.proofs.Common.{◌≡◌, ◌-◌, ◌≤◌, ◌++◌, length, drop, map}
use Rattle.cert_desk_orders.specs.OrderReading.{lines_plain}
use Rattle.cert_desk_orders.specs.OrdersFile.{by_order}
use Rattle.cert_desk_orders.proofs.orders_file.grouped.Given as goal

abbrev pub invariant-orders : goal.invariant-orders
invariant-orders l =
    (l.start ≤ length l.lines)
    × (map (λ order. lines_plain order.now) l.orders.items ++ by_order (lines_plain (drop l.start l.lines)) ≡ by_order (lines_plain l.lines))

abbrev pub decreases-orders : goal.decreases-orders
decreases-orders l = length l.lines - l.start
