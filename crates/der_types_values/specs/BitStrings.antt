-- The abstract values of bit strings, which are the number of unused bits and the bytes, and of
-- iterators over bits.
use Rattle.std.specs.Prelude.{◌≡◌, Bool, true, List, map}
use Rattle.std.specs.List.{range_with_len}
use Rattle.der_core.specs.BitStrings.{Bits, are_bits}
use Rattle.der_types_values.specs.declared.bit_string.BitString.TheInside.{Inside}
use Rattle.der_types_values.specs.declared.bit_string_ref.BitStringRef.{BitStringRef}
use Rattle.der_types_values.specs.Bits.{bit_at}
use Rattle.der_types_values.specs.declared.bit_string_iter.BitStringIter.{BitStringIter}

-- The abstract value of a `BitString`.
abbrev pub bits_kept : Inside → Bits
bits_kept b = record { unused = b.unused_bits; octets = b.bytes }

-- The unused bits are valid.
abbrev pub IsBitString : Inside → Type 0
IsBitString b = are_bits b.unused_bits b.bytes ≡ true

-- The abstract value of a `BitStringRef`.
abbrev pub bits_lent : BitStringRef → Bits
bits_lent b = record { unused = b.unused_bits; octets = b.bytes.now }

-- The bits that an iterator will still return.
abbrev pub bits_left : BitStringIter → List Bool
bits_left i = map (bit_at i.bytes.now) (range_with_len i.position i.left)
