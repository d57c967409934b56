-- The string form of attribute values (RFC 4514 2.4, 3).
use Rattle.std.specs.Prelude.{◌≡◌, ◌≢◌, ℕ, ◌+◌, ◌*◌, ◌/◌, ◌%◌, ◌==◌, ◌&&◌, ◌||◌, nat_eq, nat_lt}
use Rattle.std.specs.Prelude.{List, [], ◌∷◌, ◌++◌, Bool, true, false, Option, Some, Result, Ok, Err}
use Rattle.std.specs.Prelude.{if◌then◌else◌, encode_utf8}
use Rattle.std.specs.Fmt.{digit_glyph}
use Rattle.std.specs.List.{AllByRecursion, list_any, flat_map}
use Rattle.der_core.specs.ErrorTypes.ErrorKind.{ErrorKind}
use Rattle.der_core.specs.ErrorTypes.ErrorKind.TheVariants as kinds
use Rattle.der_core.specs.Octets.{◌>>=◌}
use Rattle.hex.specs.Hex.{hex_digit_value, decode_of}
use Rattle.hex.specs.declared.error.FromHexError.{FromHexError}
use Rattle.x509_cert_name_texts.specs.Pieces.{Counts, HasNone}

-- The characters that a backslash may precede directly (RFC 4514 3, `special` and `ESC`): space " #
-- + , ; < = > and the backslash.
abbrev pub signs : List ℕ
signs = 32 ∷ 34 ∷ 35 ∷ 43 ∷ 44 ∷ 59 ∷ 60 ∷ 61 ∷ 62 ∷ 92 ∷ []

-- The character is one of these.
abbrev pub is_sign : ℕ → Bool
is_sign c = list_any (nat_eq c) signs

-- The string form of a value represents these bytes (RFC 4514 3, `string` and `pair`). A byte other
-- than a backslash represents itself. RFC 4514 requires a pair for " ; < > NUL and for a space at
-- either end; here each of these also represents itself.
pub data StandsFor : List ℕ → List ℕ → Type 0 where
  end : StandsFor [] []
  plain : (c : ℕ) (text octets : List ℕ) → c ≢ 92 → StandsFor text octets
      → StandsFor (c ∷ text) (c ∷ octets)
  sign : (c : ℕ) (text octets : List ℕ) → is_sign c ≡ true → StandsFor text octets
      → StandsFor (92 ∷ c ∷ text) (c ∷ octets)
  hexpair : (c d high low : ℕ) (text octets : List ℕ) → hex_digit_value c ≡ Some high
      → hex_digit_value d ≡ Some low → StandsFor text octets
      → StandsFor (92 ∷ c ∷ d ∷ text) ((high * 16 + low) ∷ octets)

-- The result of parsing the string form of a value: the bytes that it represents, or Failed if it
-- represents none.
abbrev pub ReadsOctets : List ℕ → Result (List ℕ) ErrorKind → Type 0
ReadsOctets text (Ok octets) = StandsFor text octets
ReadsOctets text (Err e) = (e ≡ kinds.Failed) × ((octets : List ℕ) → StandsFor text octets → ⊥)

-- The byte that two hexadecimal digits represent, or Failed if either isn't a digit.
abbrev pub octet_of_digits : Option ℕ → Option ℕ → Result ℕ ErrorKind
octet_of_digits (Some high) (Some low) = Ok (high * 16 + low)
octet_of_digits _ _ = Err kinds.Failed

-- The byte that an escape represents and the bytes after the escape, given the bytes after its
-- backslash.
abbrev pub escape : List ℕ → Result (ℕ × List ℕ) ErrorKind
escape [] = Err kinds.Failed
escape (c ∷ []) = if is_sign c then Ok (c, []) else Err kinds.Failed
escape (c ∷ d ∷ w) = if is_sign c then Ok (c, d ∷ w)
    else (octet_of_digits (hex_digit_value c) (hex_digit_value d) >>= λ octet. Ok (octet, w))

-- The result of decoding hexadecimal digits, with every error as Failed.
abbrev pub of_hex : Result (List ℕ) FromHexError → Result (List ℕ) ErrorKind
of_hex (Ok w) = Ok w
of_hex (Err e) = Err kinds.Failed

-- The bytes that hexadecimal digits represent, two digits for each byte.
abbrev pub hex_octets : List ℕ → Result (List ℕ) ErrorKind
hex_octets digits = of_hex (decode_of digits)

-- The characters that are escaped at every position (RFC 4514 2.4): " + , ; < > and the backslash.
abbrev pub is_escaped_sign : ℕ → Bool
is_escaped_sign c = list_any (nat_eq c) (34 ∷ 43 ∷ 44 ∷ 59 ∷ 60 ∷ 62 ∷ 92 ∷ [])

-- A byte as two lowercase hexadecimal digits.
abbrev pub hex_digits : ℕ → List ℕ
hex_digits octet = digit_glyph false (octet / 16) ∷ digit_glyph false (octet % 16) ∷ []

-- Bytes as lowercase hexadecimal digits, two for each byte.
abbrev pub in_hex : List ℕ → List ℕ
in_hex w = flat_map hex_digits w

-- A control character of ASCII: below U+0020, or U+007F.
abbrev pub is_control : ℕ → Bool
is_control c = nat_lt c 32 || (c == 127)

-- The bytes that are printed for a character of a value (RFC 4514 2.4). A space is also escaped if
-- it is first or last, and # if it is first. A control character is printed as a pair of
-- hexadecimal digits.
abbrev pub escaped_char : Bool → Bool → ℕ → List ℕ
escaped_char first last c =
    if is_escaped_sign c || ((c == 35) && first) || ((c == 32) && (first || last)) then 92 ∷ c ∷ []
    else if is_control c then 92 ∷ hex_digits c
    else encode_utf8 c

-- The list is empty.
abbrev pub is_end : List ℕ → Bool
is_end [] = true
is_end (c ∷ w) = false

-- The bytes that are printed for these characters; `first` says that they are at the beginning of
-- the value.
abbrev pub escaped_from : Bool → List ℕ → List ℕ
escaped_from first [] = []
escaped_from first (c ∷ w) = escaped_char first (is_end w) c ++ escaped_from false w

-- The bytes that are printed for a value.
abbrev pub escaped : List ℕ → List ℕ
escaped text = escaped_from true text

-- The value keeps the restrictions of `string` (RFC 4514 3): the characters " + , ; < > and NUL
-- occur only in a pair, and so do a space or # at the beginning and a space at the end.
pub record IsString (text : List ℕ) : Type 0 where
  pub inside : AllByRecursion (λ c. HasNone c text) (34 ∷ 43 ∷ 44 ∷ 59 ∷ 60 ∷ 62 ∷ 0 ∷ [])
  pub first : (w : List ℕ) → (text ≢ 32 ∷ w) × (text ≢ 35 ∷ w)
  pub last : (w : List ℕ) → text ≡ w ++ (32 ∷ []) → Counts w → ⊥
