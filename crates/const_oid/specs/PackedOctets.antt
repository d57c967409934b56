-- A list of bytes whose last byte has bit 8 clear, in an array that is filled up with the byte
-- 0x80. So the end of the list can be found in the array.
use Rattle.std.specs.Prelude.{◌≡◌, ℕ, ◌-◌, ◌≤◌, true, false, ltb, List, [], ◌∷◌, ◌++◌, length, min}
use Rattle.std.specs.Prelude.{replicate}

-- A byte before others. If none follows, it is kept only if its bit 8 is clear.
abbrev pub octet_in_front : ℕ → List ℕ → List ℕ
octet_in_front o [] = elim (ltb o 128) [ true ↦ o ∷ [] | false ↦ [] ]
octet_in_front o (x ∷ w) = o ∷ x ∷ w

-- The bytes up to the last one whose bit 8 is clear.
unfoldable pub unmarked_front : List ℕ → List ℕ
unmarked_front [] = []
unmarked_front (o ∷ w) = octet_in_front o (unmarked_front w)

-- The array contains this list, followed by bytes 0x80, and `count` is the length of the list, or
-- 255 if it is greater.
pub record IsPacked (size : ℕ) (bytes : List ℕ) (count : ℕ) : Type 0 where
  pub fits : length (unmarked_front bytes) ≤ size
  pub padded : bytes ≡ unmarked_front bytes ++ replicate (size - length (unmarked_front bytes)) 128
  pub counted : count ≡ min 255 (length (unmarked_front bytes))
