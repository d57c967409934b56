-- Sets of named bits, which are bit strings without trailing zero bits (X.680 22.7; X.690 11.2.2).
-- A set is a number: bit `i` is set if name `i` is in the set.
use Rattle.std.specs.Prelude.{ℕ, ◌+◌, ◌*◌, ◌<◌, ◌^◌, List, [], ◌∷◌, map, reverse, Bool, not, Result}
use Rattle.std.specs.Prelude.{Ok, Err, nat_lt, ◌==◌, ◌&&◌, if◌then◌else◌}
use Rattle.std.specs.Int.{w8, reverse_bits, trailing_zeros}
use Rattle.const_oid.specs.Digits.{digits}
use Rattle.der_core_head.specs.declared.error.ErrorKind.{ErrorKind}
use Rattle.der_core_head.specs.declared.error.ErrorKind.TheVariants as kinds
use Rattle.der_core_head.specs.declared.tag.Tag.{Tag}
use Rattle.der_core_head.specs.BitStrings.{last_octet}

-- The bytes of a set. Each byte has eight names, the first in its highest bit.
unfoldable pub set_octets : ℕ → List ℕ
set_octets n = if n == 0 then [] else map (reverse_bits w8) (reverse (digits 256 n))

-- The number of zero bits after the last one bit.
abbrev pub unused_bits : List ℕ → ℕ
unused_bits [] = 0
unused_bits (b ∷ w) = trailing_zeros w8 (last_octet (b ∷ w))

-- The content of a set: the number of unused bits, followed by the bytes.
unfoldable pub named_octets : ℕ → List ℕ
named_octets n = unused_bits (set_octets n) ∷ set_octets n

-- The set that bytes mean.
unfoldable pub spelled_set : List ℕ → ℕ
spelled_set [] = 0
spelled_set (b ∷ w) = spelled_set w * 256 + reverse_bits w8 b

-- A set of this many names.
abbrev pub IsNamed : ℕ → ℕ → Type 0
IsNamed names n = n < 2 ^ names

-- The last used bit is one.
abbrev pub ends_in_one : ℕ → List ℕ → Bool
ends_in_one unused [] = unused == 0
ends_in_one unused (b ∷ w) = not (last_octet (b ∷ w) == 0) && unused == unused_bits (b ∷ w)

-- Decodes the content of a set.
unfoldable pub named_read : ℕ → Tag → List ℕ → Result ℕ ErrorKind
named_read names t [] = Err (kinds.Length t)
named_read names t (unused ∷ w) = if ends_in_one unused w && nat_lt (spelled_set w) (2 ^ names)
    then Ok (spelled_set w) else Err (kinds.Value t)
