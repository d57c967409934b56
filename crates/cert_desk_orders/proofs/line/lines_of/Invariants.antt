-- The loop invariant of `line::lines_of`: the lines so far, followed by the remaining ones, are
-- those of the file.
use Rattle.std.proofs.Common.{◌≡◌, ◌+◌, ◌++◌, map, drop}
use Rattle.cert_desk_orders.specs.OrderReading.{lines_plain}
use Rattle.cert_desk_orders.specs.OrdersFile.{lines_from, lines_in}
use Rattle.cert_desk_orders.proofs.line.lines_of.Given as goal

abbrev pub invariant-loop-part : goal.invariant-loop-part
invariant-loop-part l =
    (l.number ≡ l.part-index)
    × (lines_plain l.lines.items ++ lines_from (l.part-index + 1) (map (λ part. part.now) (drop l.part-index l.part-items)) ≡ lines_in l.fn.octets)
