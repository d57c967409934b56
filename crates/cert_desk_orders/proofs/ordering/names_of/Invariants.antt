-- The loop invariant of `ordering::names_of`: the DNS names of the lines so far.
use Rattle.std.proofs.Common.{◌≡◌, map, take, codes, string_bytes}
use Rattle.cert_desk_orders.specs.OrderReading.{lines_plain}
use Rattle.cert_desk_orders.specs.OrdersFile.{values_of}
use Rattle.cert_desk_orders.proofs.ordering.names_of.Given as goal

abbrev pub invariant-loop-line : goal.invariant-loop-line
invariant-loop-line l = values_of (codes "dns") (lines_plain (take l.line-index l.lines)) ≡ map string_bytes l.names.items
