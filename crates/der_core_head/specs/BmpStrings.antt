-- BMPString: each character is below 0x10000 and has two bytes, the more significant one first
-- (X.690 8.23.8).
use Rattle.std.specs.Prelude.{◌≡◌, ℕ, ◌+◌, ◌*◌, ◌/◌, ◌%◌, List, [], ◌∷◌, Bool, true, false, Result}
use Rattle.std.specs.Prelude.{Ok, Err, nat_lt, nat_le, ◌&&◌, ◌||◌, if◌then◌else◌}
use Rattle.std.specs.List.{list_all, flat_map}
use Rattle.der_core_head.specs.declared.error.ErrorKind.{ErrorKind}
use Rattle.der_core_head.specs.declared.error.ErrorKind.TheVariants as kinds
use Rattle.der_core_head.specs.declared.tag.Tag.{Tag}

-- A character of the basic multilingual plane, which a surrogate isn't.
abbrev pub is_unit : ℕ → Bool
is_unit u = nat_lt u 0xD800 || (nat_le 0xE000 u && nat_lt u 0x10000)

-- Each is a character of the basic multilingual plane.
abbrev pub IsBmp : List ℕ → Type 0
IsBmp us = list_all is_unit us ≡ true

-- The two bytes of a character.
abbrev pub unit_octets : ℕ → List ℕ
unit_octets u = (u / 256) ∷ (u % 256) ∷ []

-- The content of a BMPString.
unfoldable pub bmp_octets : List ℕ → List ℕ
bmp_octets us = flat_map unit_octets us

-- The number of bytes is even.
abbrev pub are_pairs : List ℕ → Bool
are_pairs [] = true
are_pairs (a ∷ []) = false
are_pairs (a ∷ b ∷ w) = are_pairs w

-- The characters of pairs of bytes.
abbrev pub units : List ℕ → List ℕ
units [] = []
units (a ∷ []) = []
units (a ∷ b ∷ w) = (256 * a + b) ∷ units w

-- Decodes the content of a BMPString.
unfoldable pub bmp_read : Tag → List ℕ → Result (List ℕ) ErrorKind
bmp_read t w = if are_pairs w && list_all is_unit (units w) then Ok (units w)
    else Err (kinds.Value t)
