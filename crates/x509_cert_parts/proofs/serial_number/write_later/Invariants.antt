-- The loop invariants of `serial_number::write_later`.
use Rattle.std.specs.Prelude.{take, flat_map}
use Rattle.std.specs.Fmt.{HasWritten, IsPlainFormatter}
use Rattle.x509_cert_parts.specs.SerialNumbers.{colon_pair}
use Rattle.x509_cert_parts.proofs.serial_number.write_later.Given as goal

-- The bytes written so far.
abbrev pub invariant-loop-octet : goal.invariant-loop-octet
invariant-loop-octet g l =
    IsPlainFormatter l.initial.f → HasWritten g.W.Write.write_str_gives l.initial.f (flat_map colon_pair (take l.octet-index l.octets)) l.f
