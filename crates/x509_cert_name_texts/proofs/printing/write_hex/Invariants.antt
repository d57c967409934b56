-- The loop invariants of `printing::write_hex`.
use Rattle.std.proofs.Common.{take}
use Rattle.std.specs.Fmt.{HasWritten, IsPlainFormatter}
use Rattle.x509_cert_name_texts.specs.Escapes.{in_hex}
use Rattle.x509_cert_name_texts.proofs.printing.write_hex.Given as goal

-- The bytes written so far.
abbrev pub invariant-loop-octet : goal.invariant-loop-octet
invariant-loop-octet g l =
    IsPlainFormatter l.initial.f → HasWritten g.W.Write.write_str_gives l.initial.f (in_hex (take l.octet-index l.octets)) l.f
