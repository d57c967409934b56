-- The remaining bytes have the same result.
use Rattle.std.proofs.Common.{◌≡◌, length}
use Rattle.cert_tool_pem.specs.Pem.{after_blanks}
use Rattle.cert_tool_pem.proofs.pem_lines.after_blanks.Given as goal

abbrev pub invariant-blanks : goal.invariant-blanks
invariant-blanks l = after_blanks l.left ≡ after_blanks l.fn.line

abbrev pub decreases-blanks : goal.decreases-blanks
decreases-blanks l = length l.left
