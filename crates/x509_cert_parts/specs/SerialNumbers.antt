-- Serial numbers (RFC 5280 4.1.2.2): their length, the construction of new ones, and their printed
-- form.
use Rattle.std.specs.Prelude.{ℕ, ℤ, pos, ◌/◌, ◌%◌, List, [], ◌∷◌, ◌++◌, length, nat_lt, Result}
use Rattle.std.specs.Prelude.{Ok, Err, true, if◌then◌else◌, flat_map}
use Rattle.std.specs.Fmt.{digit_glyph}
use Rattle.der_core.specs.ErrorTypes.ErrorKind.{ErrorKind}
use Rattle.der_core.specs.ErrorTypes.ErrorKind.TheVariants as kinds
use Rattle.der_core.specs.Integers.{integer_octets}
use Rattle.der_core.specs.Octets.{◌>>=◌}
use Rattle.der_types.specs.Numbers.{unsigned_number}
use Rattle.x509_cert_parts.specs.declared.serial_number.SerialNumber.TheInside.{Inside}

-- The value of a serial number in contracts.
abbrev pub serial_kept : {P : Type 0} → Inside P → ℤ
serial_kept n = n.inner

-- The greatest number of content bytes of a serial number under RFC 5280: 20, and one for the sign.
abbrev pub serial_octets_max : ℕ
serial_octets_max = 21

-- The nonnegative number with these digits in base 256, if it has at most 20 content bytes.
unfoldable pub new_serial : List ℕ → Result ℤ ErrorKind
new_serial w = unsigned_number w >>= λ n. if nat_lt 20 (length (integer_octets (pos n)))
    then Err kinds.Overlength else Ok (pos n)

-- Two uppercase hexadecimal digits of a byte.
abbrev pub hex_pair : ℕ → List ℕ
hex_pair o = digit_glyph true (o / 16) ∷ digit_glyph true (o % 16) ∷ []

-- A colon and two uppercase hexadecimal digits.
abbrev pub colon_pair : ℕ → List ℕ
colon_pair o = 58 ∷ hex_pair o

-- Bytes as pairs of uppercase hexadecimal digits, joined by colons.
abbrev pub colon_pairs : List ℕ → List ℕ
colon_pairs [] = []
colon_pairs (o ∷ w) = hex_pair o ++ flat_map colon_pair w
