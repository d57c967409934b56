-- The abstract values of a `BmpString` and of its iterators: characters.
use Rattle.std.specs.Prelude.{◌≡◌, ◌&&◌, ℕ, List, Bool, length, Result, Ok, Err, nat_lt}
use Rattle.std.specs.Prelude.{if◌then◌else◌}
use Rattle.std.specs.List.{list_all}
use Rattle.der_core.specs.Limits.{length_max}
use Rattle.der_core.specs.ErrorTypes.ErrorKind.{ErrorKind}
use Rattle.der_core.specs.ErrorTypes.ErrorKind.TheVariants as kinds
use Rattle.der_core.specs.TagTypes.Tag.TheVariants as tags
use Rattle.der_core.specs.BmpStrings.{is_unit, IsBmp, bmp_octets, bmp_read, are_pairs, units}
use Rattle.der_types_text.specs.declared.bmp_string.BmpString.TheInside.{Inside}

-- The bytes are pairs, each of which is a character.
abbrev pub are_bmp : List ℕ → Bool
are_bmp w = are_pairs w && list_all is_unit (units w)

-- The characters of a `BmpString`.
abbrev pub characters_of : Inside → List ℕ
characters_of s = units s.bytes.items

-- The bytes are the encoding of characters that BMPString has.
pub record IsBmpString (s : Inside) : Type 0 where
  pub spelled : s.bytes.items ≡ bmp_octets (units s.bytes.items)
  pub characters : IsBmp (units s.bytes.items)

-- The characters of at most 2^32 - 1 bytes, or the error.
abbrev pub ucs2_from : List ℕ → Result (List ℕ) ErrorKind
ucs2_from w = if nat_lt length_max (length w) then Err kinds.Overflow else bmp_read tags.BmpString w

-- The characters, or the error `Value` if BMPString doesn't have one of them.
abbrev pub bmp_from : List ℕ → Result (List ℕ) ErrorKind
bmp_from cs = if list_all is_unit cs then Ok cs else Err (kinds.Value tags.BmpString)
