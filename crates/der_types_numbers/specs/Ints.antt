-- The abstract values of integers of any size: the integer.
use Rattle.std.specs.Prelude.{◌≡◌, ◌<◌, ℕ, ℤ, pos, List, false, length}
use Rattle.std.specs.Int.Digits.{number_from_digits}
use Rattle.der_core.specs.Oid.Digits.{digits}
use Rattle.der_core.specs.Heads.{Fits}
use Rattle.der_core.specs.Integers.{integer_of, integer_octets, is_redundant}
use Rattle.der_types_numbers.specs.declared.int.Int.TheInside.{Inside}
use Rattle.der_types_numbers.specs.declared.int_ref.IntRef.{IntRef}
use Rattle.der_types_numbers.specs.declared.uint.Uint.TheInside.{Inside as UintInside}
use Rattle.der_types_numbers.specs.declared.uint_ref.UintRef.{UintRef}

-- The abstract value of an `Int`.
abbrev pub integer_kept : Inside → ℤ
integer_kept n = integer_of n.bytes

-- The bytes are the content of an integer, in the fewest bytes.
pub record IsInt (n : Inside) : Type 0 where
  pub content : n.bytes ≡ integer_octets (integer_of n.bytes)
  pub some : 0 < length n.bytes
  pub shortest : is_redundant n.bytes ≡ false
  pub short : Fits n.bytes

-- The abstract value of an `IntRef`.
abbrev pub integer_lent : IntRef → ℤ
integer_lent n = integer_of n.bytes.now

-- The abstract value of a `Uint`.
abbrev pub natural_kept : UintInside → ℕ
natural_kept n = number_from_digits 256 n.bytes.items

-- The bytes are the content of an integer that isn't negative.
pub record IsUint (n : UintInside) : Type 0 where
  pub some : 0 < length n.bytes.items
  pub spelled : n.bytes.items ≡ integer_octets (pos (number_from_digits 256 n.bytes.items))
  pub short : Fits n.bytes.items

-- The abstract value of a `UintRef`.
abbrev pub natural_lent : UintRef → ℕ
natural_lent n = number_from_digits 256 n.bytes.now

-- The content bytes.
abbrev pub content_lent : IntRef → List ℕ
content_lent n = integer_octets (integer_lent n)

-- The digits in base 256.
abbrev pub digits_lent : UintRef → List ℕ
digits_lent n = digits 256 (natural_lent n)
