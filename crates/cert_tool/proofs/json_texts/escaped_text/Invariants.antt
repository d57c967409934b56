-- The characters that were escaped so far and those that remain are all characters of the text.
use Rattle.std.proofs.Common.{◌≡◌, ◌++◌, IsUtf8, string_bytes}
use Rattle.std.specs.Str.Iter.{chars_rest}
use Rattle.cert_tool.specs.JsonTexts.{escaped_text}
use Rattle.cert_tool.proofs.json_texts.escaped_text.Given as goal

abbrev pub invariant-loop-letter : goal.invariant-loop-letter
invariant-loop-letter l = IsUtf8 (chars_rest l.letter-iterator) × (string_bytes l.escaped ++ escaped_text (chars_rest l.letter-iterator) ≡ escaped_text l.fn.text)
