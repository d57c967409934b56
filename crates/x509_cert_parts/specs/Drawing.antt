-- Random serial numbers (RFC 5280 4.1.2.2; CA/Browser Forum, Baseline Requirements 7.1).
use Rattle.std.specs.Prelude.{ℕ, zero, suc, ℤ, List, [], ◌∷◌, ◌+◌, ◌++◌, length, Bool, true, ◌==◌}
use Rattle.std.specs.Prelude.{nat_lt, Option, Some, None, Result, Err, if◌then◌else◌}
use Rattle.der_core.specs.ErrorTypes.ErrorKind.{ErrorKind}
use Rattle.der_core.specs.ErrorTypes.ErrorKind.TheVariants as kinds
use Rattle.rand_core.specs.Stream.{Stream, fill_bytes}
use Rattle.x509_cert_parts.specs.SerialNumbers.{new_serial}

-- There is no byte, or the first byte is 0.
abbrev pub begins_with_zero : List ℕ → Bool
begins_with_zero [] = true
begins_with_zero (b ∷ w) = b == 0

-- The first of at most `k` fills of `n` bytes that doesn't begin with 0, if there is one, and the
-- rest of the generator's stream.
abbrev pub first_fill : ℕ → ℕ → Stream → Option (List ℕ) × Stream
first_fill zero n s = (None, s)
first_fill (suc k) n s =
    if begins_with_zero (fill_bytes n s).0 then first_fill k n (fill_bytes n s).1
    else (Some (fill_bytes n s).0, (fill_bytes n s).1)

-- The number of a prefix and random bytes, or Failed if no fill was found.
abbrev pub serial_of : List ℕ → Option (List ℕ) → Result ℤ ErrorKind
serial_of prefix None = Err kinds.Failed
serial_of prefix (Some random) = new_serial (prefix ++ random)

-- The serial number of a prefix and `n` random bytes, and the rest of the generator's stream. The
-- first random byte isn't 0, at least 64 bits are random, and there are at most 19 bytes, so that
-- the sign fits into the 20th. Sixteen fills are tried. A length that is rejected draws nothing.
unfoldable pub drawn_serial : List ℕ → ℕ → Stream → Result ℤ ErrorKind × Stream
drawn_serial prefix n s =
    if nat_lt n 8 then (Err kinds.Failed, s)
    else if nat_lt 19 (length prefix + n) then (Err kinds.Failed, s)
    else (serial_of prefix (first_fill 16 n s).0, (first_fill 16 n s).1)
