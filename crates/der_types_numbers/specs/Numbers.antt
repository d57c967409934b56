-- Integers from bytes that may have redundant leading bytes (X.690 8.3.2).
use Rattle.std.specs.Prelude.{ℕ, ℤ, pos, List, [], ◌∷◌, length, Bool, false, nat_lt, ◌==◌, not}
use Rattle.std.specs.Prelude.{Result, Ok, Err, if◌then◌else◌}
use Rattle.std.specs.Int.Digits.{number_from_digits}
use Rattle.der_core.specs.Limits.{length_max}
use Rattle.der_core.specs.ErrorTypes.ErrorKind.{ErrorKind}
use Rattle.der_core.specs.ErrorTypes.ErrorKind.TheVariants as kinds
use Rattle.der_core.specs.TagTypes.Tag.TheVariants.{Integer}
use Rattle.der_core.specs.Integers.{integer_of, integer_octets}

-- The integer, or `Overflow` if its content has more than `length_max` bytes.
unfoldable pub if_countable : {A : Type 0} → List ℕ → A → Result A ErrorKind
if_countable content n = if nat_lt length_max (length content) then Err kinds.Overflow else Ok n

-- The integer that bytes are in two's complement, also if fewer bytes would be enough.
unfoldable pub signed_number : List ℕ → Result ℤ ErrorKind
signed_number [] = Err (kinds.Length Integer)
signed_number (d ∷ ds) = if_countable (integer_octets (integer_of (d ∷ ds))) (integer_of (d ∷ ds))

-- The number that bytes are in base 256, with or without leading zeros.
unfoldable pub unsigned_number : List ℕ → Result ℕ ErrorKind
unsigned_number [] = Err (kinds.Length Integer)
unsigned_number (d ∷ ds) = if_countable (integer_octets (pos (number_from_digits 256 (d ∷ ds))))
    (number_from_digits 256 (d ∷ ds))

-- The first of at least two digits is zero.
abbrev pub has_leading_zero : List ℕ → Bool
has_leading_zero (d ∷ e ∷ ds) = d == 0
has_leading_zero w = false

-- The first bit is one.
abbrev pub is_first_bit_set : List ℕ → Bool
is_first_bit_set [] = false
is_first_bit_set (d ∷ ds) = not (nat_lt d 128)
