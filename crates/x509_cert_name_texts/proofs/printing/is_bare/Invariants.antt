-- The loop invariants of `printing::is_bare`.
use Rattle.std.proofs.Common.{◌≡◌, length}
use Rattle.x509_cert_name_texts.specs.Escapes.{escaped, escaped_from}
use Rattle.x509_cert_name_texts.proofs.printing.is_bare.Given as goal

-- If the rest is printed unchanged, so is the whole text.
abbrev pub invariant-loop-octet : goal.invariant-loop-octet
invariant-loop-octet l = escaped_from l.first l.left ≡ l.left → escaped l.text ≡ l.text

abbrev pub decreases-loop-octet : goal.decreases-loop-octet
decreases-loop-octet l = length l.left
