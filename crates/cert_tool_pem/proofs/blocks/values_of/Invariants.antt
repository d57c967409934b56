-- The state and the remaining lines give the values of all lines.
use Rattle.std.proofs.Common.{◌≡◌, map, drop, Ok}
use Rattle.cert_tool_pem.specs.Pem.{nothing_read, read_on}
use Rattle.cert_tool_pem.specs.PemReading.{reading_plain}
use Rattle.cert_tool_pem.proofs.blocks.values_of.Given as goal

abbrev pub invariant-loop-line : goal.invariant-loop-line
invariant-loop-line l =
    (l.number ≡ l.line-index)
    × (read_on l.fn.wanted l.line-index (Ok (reading_plain l.reading)) (map (λ line. line.now) (drop l.line-index l.fn.lines)) ≡ read_on l.fn.wanted 0 (Ok nothing_read) (map (λ line. line.now) l.fn.lines))
