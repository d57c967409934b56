-- The loop invariant of `reasons::first_unknown`: the first line with an unknown word is among the
-- remaining ones.
use Rattle.std.proofs.Common.{◌≡◌, drop}
use Rattle.cert_desk_orders.specs.OrderReading.{lines_plain}
use Rattle.cert_desk_orders.specs.Reasons.{first_unknown}
use Rattle.cert_desk_orders.proofs.reasons.first_unknown.Given as goal

abbrev pub invariant-loop-line : goal.invariant-loop-line
invariant-loop-line l = first_unknown (lines_plain (drop l.line-index l.lines)) ≡ first_unknown (lines_plain l.lines)
