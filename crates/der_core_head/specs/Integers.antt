-- INTEGER and ENUMERATED: two's complement in the fewest bytes (X.690 8.3, 8.4).
use Rattle.std.specs.Prelude.{ℕ, ℤ, pos, negsuc, ◌-◌, ◌<◌, ◌≤◌, ◌^◌, List, [], ◌∷◌, length, map}
use Rattle.std.specs.Prelude.{Bool, false, not, Result, Ok, Err, nat_lt, ◌==◌, ◌&&◌, ◌||◌}
use Rattle.std.specs.Prelude.{if◌then◌else◌, Contains, ⊤}
use Rattle.std.specs.List.{list_any}
use Rattle.std.specs.Int.Digits.{number_from_digits}
use Rattle.const_oid.specs.Digits.{digits}
use Rattle.der_core_head.specs.declared.error.ErrorKind.{ErrorKind}
use Rattle.der_core_head.specs.declared.error.ErrorKind.TheVariants as kinds
use Rattle.der_core_head.specs.declared.tag.Tag.{Tag}
use Rattle.der_core_head.specs.Octets.{◌>>=◌}

-- Puts a zero byte before a first byte of 128 or more, so that the number isn't negative.
abbrev pub positive : List ℕ → List ℕ
positive [] = []
positive (d ∷ ds) = if nat_lt d 128 then d ∷ ds else 0 ∷ d ∷ ds

-- Inverts each bit.
abbrev pub complement : List ℕ → List ℕ
complement ds = map (λ d. 255 - d) ds

-- The content of an integer. The bits of -(n + 1) are those of n, inverted.
unfoldable pub integer_octets : ℤ → List ℕ
integer_octets (pos n) = positive (digits 256 n)
integer_octets (negsuc n) = complement (positive (digits 256 n))

-- The numbers that a type allows.
pub data Numbers : Type 0 where
  every : Numbers  -- all integers
  natural : Numbers  -- those that aren't negative
  unsigned : ℕ → Numbers  -- those of this many bits that aren't negative
  signed : ℕ → Numbers  -- those of this many bits in two's complement
  among : List ℕ → Numbers  -- only these, as in an enumeration
  within : ℕ → Numbers  -- those with at most this many content bytes

-- A type allows an integer.
abbrev pub IsNumber : Numbers → ℤ → Type 0
IsNumber every z = ⊤
IsNumber natural (pos n) = ⊤
IsNumber natural (negsuc n) = ⊥
IsNumber (unsigned k) (pos n) = n < 2 ^ k
IsNumber (unsigned k) (negsuc n) = ⊥
IsNumber (signed k) (pos n) = n < 2 ^ (k - 1)
IsNumber (signed k) (negsuc n) = n < 2 ^ (k - 1)
IsNumber (among ns) (pos n) = Contains ns n
IsNumber (among ns) (negsuc n) = ⊥
IsNumber (within k) z = length (integer_octets z) ≤ k

-- The first nine bits are all zero or all one (X.690 8.3.2).
abbrev pub is_redundant : List ℕ → Bool
is_redundant (a ∷ b ∷ ds) = (a == 0 && nat_lt b 128) || (a == 255 && not (nat_lt b 128))
is_redundant w = false

-- The integer that bytes are in two's complement.
unfoldable pub integer_of : List ℕ → ℤ
integer_of [] = pos 0
integer_of (d ∷ ds) = if nat_lt d 128 then pos (number_from_digits 256 (d ∷ ds))
    else negsuc (number_from_digits 256 (complement (d ∷ ds)))

-- Checks that a type allows an integer.
abbrev pub checked : Numbers → Tag → ℤ → Result ℤ ErrorKind
checked every t z = Ok z
checked natural t (pos n) = Ok (pos n)
checked natural t (negsuc n) = Err (kinds.Value t)
checked (unsigned k) t (pos n) = if nat_lt n (2 ^ k) then Ok (pos n) else Err (kinds.Length t)
checked (unsigned k) t (negsuc n) = Err (kinds.Value t)
checked (signed k) t (pos n) = if nat_lt n (2 ^ (k - 1)) then Ok (pos n) else Err (kinds.Length t)
checked (signed k) t (negsuc n) = if nat_lt n (2 ^ (k - 1)) then Ok (negsuc n)
    else Err (kinds.Length t)
checked (among ns) t (pos n) = if list_any (λ m. m == n) ns then Ok (pos n) else Err (kinds.Value t)
checked (among ns) t (negsuc n) = Err (kinds.Value t)
checked (within k) t z = if nat_lt k (length (integer_octets z)) then Err (kinds.Value t) else Ok z

-- Decodes an integer, which must have the fewest bytes (X.690 8.3.2).
unfoldable pub shortest_integer : Tag → List ℕ → Result ℤ ErrorKind
shortest_integer t [] = Err (kinds.Length t)
shortest_integer t (d ∷ ds) = if is_redundant (d ∷ ds) then Err (kinds.Noncanonical t)
    else Ok (integer_of (d ∷ ds))

-- Decodes an integer that a type allows.
abbrev pub integer_read : Numbers → Tag → List ℕ → Result ℤ ErrorKind
integer_read r t w = shortest_integer t w >>= checked r t
