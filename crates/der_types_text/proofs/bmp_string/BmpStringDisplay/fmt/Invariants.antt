-- The loop invariants of `bmp_string::BmpStringDisplay::fmt`.
use Rattle.std.proofs.Common.{◌≡◌, ℕ, List, ◌++◌, encode_utf8_all}
use Rattle.std.specs.Fmt.{HasWritten, IsPlainFormatter}
use Rattle.der_types_text.proofs.bmp_string.BmpStringDisplay.fmt.Given as goal

abbrev pub invariant-loop-character : goal.invariant-loop-character
invariant-loop-character g l =
    IsPlainFormatter l.fn.f
    → (done : List ℕ) × HasWritten g.W.Write.write_str_gives l.fn.f done l.f × (done ++ encode_utf8_all l.characters ≡ encode_utf8_all l.fn.self)
