-- The digits of a number in a base, with the most significant digit first.
use Rattle.std.specs.Prelude.{ℕ, zero, suc, ◌+◌, ◌/◌, ◌%◌, true, false, ltb, List, [], ◌∷◌, ◌++◌}

-- The digits of `n`. `room` bounds the number of digits after the first, and a `room` of `n` is
-- enough.
unfoldable pub digits_within : (base room n : ℕ) → List ℕ
digits_within base zero n = n ∷ []
digits_within base (suc room) n =
    elim (ltb n base) [
      | true ↦ n ∷ []
      | false ↦ digits_within base room (n / base)
          ++ (n % base ∷ [])
    ]

-- The digits of `n` without leading zeros. The number 0 has one digit.
unfoldable pub digits : (base n : ℕ) → List ℕ
digits base n = digits_within base n n

-- Adds 128 to all digits but the last, because bit 8 says that more digits follow (X.690 8.19.2).
unfoldable pub marked : List ℕ → List ℕ
marked [] = []
marked (d ∷ []) = d ∷ []
marked (d ∷ e ∷ ds) = (128 + d) ∷ marked (e ∷ ds)
