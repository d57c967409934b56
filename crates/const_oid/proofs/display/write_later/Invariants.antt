-- The loop invariants of `display::write_later`.
use Rattle.std.proofs.Common.{◌≡◌, ◌++◌, ℕ, List, length}
use Rattle.std.specs.List.{flat_map}
use Rattle.std.specs.Fmt.{HasWritten, IsPlainFormatter}
use Rattle.const_oid.specs.DottedText.{dot_decimal}
use Rattle.const_oid.specs.References.{remaining_arcs}
use Rattle.const_oid.proofs.display.write_later.Given as goal

-- The written text and the text of the arcs that are left make up the whole.
abbrev pub invariant-loop-arc : goal.invariant-loop-arc
invariant-loop-arc g l =
    IsPlainFormatter l.initial.f
    → (text : List ℕ) × HasWritten g.W.Write.write_str_gives l.initial.f text l.f × (text ++ flat_map dot_decimal (remaining_arcs l.arcs) ≡ flat_map dot_decimal (remaining_arcs l.initial.arcs))

abbrev pub decreases-loop-arc : goal.decreases-loop-arc
decreases-loop-arc g l = length (remaining_arcs l.arcs)
