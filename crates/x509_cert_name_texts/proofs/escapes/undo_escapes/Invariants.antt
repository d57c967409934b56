-- The loop invariants of `escapes::undo_escapes`.
use Rattle.std.proofs.Common.{◌≡◌, length}
use Rattle.x509_cert_name_texts.proofs.EscapeSteps.{undone, in_front}
use Rattle.x509_cert_name_texts.proofs.escapes.undo_escapes.Given as goal

-- Removing the escapes of the whole text yields the bytes so far and then what the rest yields.
abbrev pub invariant-loop-octet : goal.invariant-loop-octet
invariant-loop-octet l = undone l.text ≡ in_front l.octets.items (undone l.left)

abbrev pub decreases-loop-octet : goal.decreases-loop-octet
decreases-loop-octet l = length l.left
