-- Lengths, headers and whole encodings (X.690 8.1.3, 10.1).
use Rattle.std.specs.Prelude.{ℕ, ◌+◌, ◌-◌, List, [], ◌∷◌, ◌++◌, length, take, drop, Result, Ok}
use Rattle.std.specs.Prelude.{Err, nat_lt, bytes_eq, ◌==◌, if◌then◌else◌}
use Rattle.std.specs.Int.Digits.{number_from_digits}
use Rattle.const_oid.specs.Digits.{digits}
use Rattle.der_core_head.specs.declared.error.ErrorKind.{ErrorKind}
use Rattle.der_core_head.specs.declared.error.ErrorKind.TheVariants as kinds
use Rattle.der_core_head.specs.declared.tag.Tag.{Tag}
use Rattle.der_core_head.specs.Octets.{◌>>=◌, Readings}
use Rattle.der_core_head.specs.Limits.{IsLength}
use Rattle.der_core_head.specs.Tags.{tag_octets, tag_at}

-- The encoding of a length (X.690 8.1.3, 10.1): one byte below 128, or the number of its digits in
-- base 256 and these digits.
unfoldable pub length_octets : ℕ → List ℕ
length_octets n = if nat_lt n 128 then n ∷ [] else (128 + length (digits 256 n)) ∷ digits 256 n

-- The header of a value with this many content bytes.
unfoldable pub head_octets : Tag → ℕ → List ℕ
head_octets t n = tag_octets t ++ length_octets n

-- A header, followed by its content.
unfoldable pub tlv : Tag → List ℕ → List ℕ
tlv t c = head_octets t (length c) ++ c

-- The number of bytes is at most `length_max`.
abbrev pub Fits : List ℕ → Type 0
Fits w = IsLength (length w)

-- A header: a tag, and the number of content bytes.
pub record Head : Type 0 where
  pub tag : Tag
  pub len : ℕ

-- The length that some digits mean, if they and the byte before them are its only DER encoding.
abbrev pub shortest : Tag → ℕ → List ℕ → List ℕ → Result (ℕ × List ℕ) ErrorKind
shortest t first ds w =
    if bytes_eq (length_octets (number_from_digits 256 ds)) (first ∷ ds)
    then Ok (number_from_digits 256 ds, w) else Err (kinds.Length t)

-- Decodes the number of content bytes after a tag.
unfoldable pub length_at : Tag → Readings ℕ
length_at t [] = Err kinds.Incomplete
length_at t (n ∷ w) =
    if nat_lt n 128 then Ok (n, w)
    else if n == 128 then Err kinds.IndefiniteLength
    else if nat_lt 132 n then Err kinds.Overlength
    else if nat_lt (length w) (n - 128) then Err kinds.Incomplete
    else shortest t n (take (n - 128) w) (drop (n - 128) w)

-- Decodes a header under DER.
unfoldable pub head_at : Readings Head
head_at w = tag_at w >>= λ t. length_at t.0 t.1 >>= λ n. Ok (record { tag = t.0; len = n.0 }, n.1)
