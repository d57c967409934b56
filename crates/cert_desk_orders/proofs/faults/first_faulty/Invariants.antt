-- The loop invariant of `faults::first_faulty`: the first wrong line is among the remaining ones.
use Rattle.std.proofs.Common.{◌≡◌, take, drop, []}
use Rattle.cert_desk_orders.specs.OrderReading.{lines_plain}
use Rattle.cert_desk_orders.specs.OrdersFile.{first_faulty}
use Rattle.cert_desk_orders.proofs.faults.first_faulty.Given as goal

abbrev pub invariant-loop-index : goal.invariant-loop-index
invariant-loop-index l = first_faulty (lines_plain (take l.index l.lines)) (lines_plain (drop l.index l.lines)) ≡ first_faulty [] (lines_plain l.lines)
