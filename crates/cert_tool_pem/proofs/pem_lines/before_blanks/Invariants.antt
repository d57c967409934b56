-- Only white space follows.
use Rattle.std.proofs.Common.{◌≡◌, ◌≤◌, length, take}
use Rattle.cert_tool_pem.specs.Pem.{before_blanks}
use Rattle.cert_tool_pem.proofs.pem_lines.before_blanks.Given as goal

abbrev pub invariant-loop-end : goal.invariant-loop-end
invariant-loop-end l = (l.end ≤ length l.fn.line) × (before_blanks (take l.end l.fn.line) ≡ before_blanks l.fn.line)

abbrev pub decreases-loop-end : goal.decreases-loop-end
decreases-loop-end l = l.end
