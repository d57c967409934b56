-- The abstract values of the iterators over a `BmpString`: the characters that are left.
use Rattle.std.specs.Prelude.{ℕ, List}
use Rattle.der_core.specs.BmpStrings.{IsBmp, units}
use Rattle.der_types_text.specs.declared.bmp_chars.BmpCodepoints.TheInside.{Inside as CodepointsInside}
use Rattle.der_types_text.specs.declared.bmp_chars.BmpChars.TheInside.{Inside as CharsInside}

abbrev pub codepoints_of : CodepointsInside → List ℕ
codepoints_of s = units s.octets.now

abbrev pub chars_of : CharsInside → List ℕ
chars_of s = s.codepoints

abbrev pub AreChars : CharsInside → Type 0
AreChars s = IsBmp s.codepoints
