-- The loop invariant of `orders_file::read_orders`: the orders so far, and the remaining lines.
use Rattle.std.proofs.Common.{◌-◌, ◌≤◌, length, drop}
use Rattle.cert_desk_orders.specs.OrderReading.{lines_plain}
use Rattle.cert_desk_orders.proofs.OrderLines.{IsReadTo}
use Rattle.cert_desk_orders.proofs.orders_file.read_orders.Given as goal

abbrev pub invariant-orders : goal.invariant-orders
invariant-orders l = (l.start ≤ length l.lines) × IsReadTo (lines_plain l.lines) l.orders.items (lines_plain (drop l.start l.lines))

abbrev pub decreases-orders : goal.decreases-orders
decreases-orders l = length l.lines - l.start
