-- Texts of a repertoire, and texts of bytes (X.680 41).
use Rattle.std.specs.Prelude.{◌≡◌, ◌<◌, ℕ, List, length, true, Result, Err, nat_lt, if◌then◌else◌}
use Rattle.std.specs.List.{list_all}
use Rattle.std.proofs.lemmas.Bool.{ltb-true}
use Rattle.der_core.specs.Limits.{length_max}
use Rattle.der_core.specs.ErrorTypes.ErrorKind.{ErrorKind}
use Rattle.der_core.specs.ErrorTypes.ErrorKind.TheVariants as kinds
use Rattle.der_core.specs.TagTypes.Tag.{Tag}
use Rattle.der_core.specs.Texts.{Repertoire, ascii, is_within, text_read, utf8_read}

-- The repertoire has each byte.
abbrev pub AreWithin : Repertoire → List ℕ → Type 0
AreWithin r w = list_all (is_within r) w ≡ true

-- The text of at most 2^32 - 1 bytes, or the error.
abbrev pub text_from : Repertoire → Tag → List ℕ → Result (List ℕ) ErrorKind
text_from r t w = if nat_lt length_max (length w) then Err kinds.Overflow else text_read r t w

-- The text of at most 2^32 - 1 bytes of UTF-8, or the error.
abbrev pub utf8_from : List ℕ → Result (List ℕ) ErrorKind
utf8_from w = if nat_lt length_max (length w) then Err kinds.Overflow else utf8_read w

pub ascii_below : (b : ℕ) → is_within ascii b ≡ true → b < 128
ascii_below b = ltb-true b 128
