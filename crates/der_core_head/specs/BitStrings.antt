-- Bit strings: the number of unused bits, and the bytes, in which the unused bits are zero (X.690
-- 8.6, 11.2).
use Rattle.std.specs.Prelude.{◌≡◌, ℕ, ◌%◌, ◌^◌, List, [], ◌∷◌, Bool, true, Result, Ok, Err, nat_lt}
use Rattle.std.specs.Prelude.{◌==◌, ◌&&◌, if◌then◌else◌}
use Rattle.der_core_head.specs.declared.error.ErrorKind.{ErrorKind}
use Rattle.der_core_head.specs.declared.error.ErrorKind.TheVariants as kinds
use Rattle.der_core_head.specs.declared.tag.Tag.{Tag}
use Rattle.der_core_head.specs.Octets.{IsOctets}

-- A bit string: the number of unused bits of the last byte, and all bytes.
pub record Bits : Type 0 where
  pub unused : ℕ
  pub octets : List ℕ

-- The last byte, or 0 if there is none.
abbrev pub last_octet : List ℕ → ℕ
last_octet [] = 0
last_octet (b ∷ []) = b
last_octet (b ∷ c ∷ w) = last_octet (c ∷ w)

-- At most seven bits are unused, none if there are no bytes, and the unused bits are zero.
abbrev pub are_bits : ℕ → List ℕ → Bool
are_bits unused [] = unused == 0
are_bits unused (b ∷ w) = nat_lt unused 8 && (last_octet (b ∷ w) % (2 ^ unused)) == 0

-- A bit string that has an encoding (X.690 8.6.2, 11.2.1).
pub record IsBits (b : Bits) : Type 0 where
  pub unused : are_bits b.unused b.octets ≡ true
  pub octets : IsOctets b.octets

-- The content of a bit string: the number of unused bits, followed by the bytes (X.690 8.6.2).
abbrev pub bit_contents : Bits → List ℕ
bit_contents b = b.unused ∷ b.octets

-- Decodes the content of a bit string.
unfoldable pub bits_read : Tag → List ℕ → Result Bits ErrorKind
bits_read t [] = Err (kinds.Length t)
bits_read t (unused ∷ w) = if are_bits unused w then Ok (record { unused = unused; octets = w })
    else Err (kinds.Value t)
