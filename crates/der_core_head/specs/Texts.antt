-- Character strings: their bytes, and the characters that they allow (X.680 41; X.690 8.23).
use Rattle.std.specs.Prelude.{◌≡◌, ℕ, List, [], ◌∷◌, Bool, true, Result, Ok, Err, nat_lt, ◌==◌}
use Rattle.std.specs.Prelude.{nat_le, ◌&&◌, ◌||◌, if◌then◌else◌}
use Rattle.std.specs.List.{list_all, list_any}
use Rattle.std.specs.Char.{is_ascii_alphanumeric, is_ascii_digit}
use Rattle.std.specs.Str.{is_utf8}
use Rattle.der_core_head.specs.declared.error.ErrorKind.{ErrorKind}
use Rattle.der_core_head.specs.declared.error.ErrorKind.TheVariants as kinds
use Rattle.der_core_head.specs.declared.tag.Tag.{Tag}
use Rattle.der_core_head.specs.Octets.{IsOctets}

-- The bytes that a string type allows.
pub data Repertoire : Type 0 where
  printable : Repertoire  -- letters, digits and some other characters (X.680 41.4)
  numeric : Repertoire  -- digits and space (X.680 41.2)
  visible : Repertoire  -- space, and the characters of ASCII that print
  ascii : Repertoire  -- bytes below 128
  any_octet : Repertoire  -- all bytes

-- The characters of a PrintableString besides letters and digits (X.680 41.4): space, apostrophe,
-- parentheses, plus, comma, hyphen, full stop, slash, colon, equals sign, question mark.
abbrev pub printable_signs : List ℕ
printable_signs = 32 ∷ 39 ∷ 40 ∷ 41 ∷ 43 ∷ 44 ∷ 45 ∷ 46 ∷ 47 ∷ 58 ∷ 61 ∷ 63 ∷ []

-- The repertoire has this byte.
abbrev pub is_within : Repertoire → ℕ → Bool
is_within printable b = is_ascii_alphanumeric b || list_any (λ c. c == b) printable_signs
is_within numeric b = is_ascii_digit b || b == 32
is_within visible b = nat_le 32 b && nat_lt b 127
is_within ascii b = nat_lt b 128
is_within any_octet b = true

-- A text that has an encoding.
pub record IsText (r : Repertoire) (w : List ℕ) : Type 0 where
  pub within : list_all (is_within r) w ≡ true
  pub octets : IsOctets w

-- Decodes the content of a string type.
unfoldable pub text_read : Repertoire → Tag → List ℕ → Result (List ℕ) ErrorKind
text_read r t w = if list_all (is_within r) w then Ok w else Err (kinds.Value t)

-- The content of a UTF8String (X.690 8.23.10).
pub record IsUtf8Text (w : List ℕ) : Type 0 where
  pub utf8 : is_utf8 w ≡ true
  pub octets : IsOctets w

-- Decodes the content of a UTF8String.
unfoldable pub utf8_read : List ℕ → Result (List ℕ) ErrorKind
utf8_read w = if is_utf8 w then Ok w else Err kinds.Utf8
