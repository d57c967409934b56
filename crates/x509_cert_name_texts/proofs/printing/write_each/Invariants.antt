-- The loop invariants of `printing::write_each`.
use Rattle.std.specs.Prelude.{◌≡◌, List, ℕ, ◌++◌, chars, IsUtf8}
use Rattle.std.specs.Fmt.{HasWritten, IsPlainFormatter}
use Rattle.std.specs.Str.Iter.{chars_rest}
use Rattle.x509_cert_name_texts.specs.Escapes.{escaped_from, escaped}
use Rattle.x509_cert_name_texts.proofs.printing.write_each.Given as goal

-- The bytes written so far and the rest of the text are the whole text.
abbrev pub invariant-loop-c : goal.invariant-loop-c
invariant-loop-c g l =
    record {
      utf8 : IsUtf8 (chars_rest l.left);
      wrote : IsPlainFormatter l.initial.f
          → (text : List ℕ) × HasWritten g.W.Write.write_str_gives l.initial.f text l.f
          × (text ++ escaped_from l.first (chars (chars_rest l.left)) ≡ escaped (chars (chars_rest l.initial.left)));
    }
