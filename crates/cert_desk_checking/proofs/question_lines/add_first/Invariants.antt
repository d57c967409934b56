-- The loop invariant of `question_lines::add_first`: the lines so far, followed by those of the
-- remaining trust anchors, are all lines.
use Rattle.std.proofs.Common.{◌≡◌, ◌++◌, string_bytes, map, drop}
use Rattle.cert_desk_checking.specs.Anchors.{anchor_plain}
use Rattle.cert_desk_checking.specs.Questioning.{entry_lines}
use Rattle.cert_desk_checking.proofs.question_lines.add_first.Given as goal

abbrev pub invariant-loop-number : goal.invariant-loop-number
invariant-loop-number l =
    string_bytes l.text ++ entry_lines l.fn.entry l.number (map anchor_plain (drop l.number l.fn.anchors))
    ≡ string_bytes l.fn.text ++ entry_lines l.fn.entry 0 (map anchor_plain l.fn.anchors)
