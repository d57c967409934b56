-- The loop invariants of `text::read`.
use Rattle.std.proofs.Common.{◌≡◌, [], None, drop}
use Rattle.const_oid.specs.Bound.{Bound}
use Rattle.const_oid.specs.TextReading.{text_arcs}
use Rattle.const_oid.proofs.text.read.Given as goal

-- The result from here on is the result from the start.
abbrev pub invariant-loop-i : goal.invariant-loop-i
invariant-loop-i l = text_arcs Bound 39 [] None l.text ≡ text_arcs Bound 39 l.arcs l.value (drop l.i l.text)
