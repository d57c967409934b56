-- Splitting a text at separators (RFC 4514 2.1, 2.2, 3).
use Rattle.std.specs.Prelude.{◌≡◌, ℕ, ◌+◌, ◌%◌, ◌<◌, ◌==◌, List, [], ◌∷◌, ◌++◌, length, take, drop}
use Rattle.std.specs.Prelude.{position, reverse, slice_index, Option, Some, None, Result, Ok, Err}
use Rattle.std.specs.Prelude.{if◌then◌else◌}

-- The number of backslashes at the beginning of the bytes.
abbrev pub backslashes : List ℕ → ℕ
backslashes [] = 0
backslashes (c ∷ w) = if c == 92 then backslashes w + 1 else 0

-- A separator after these bytes isn't escaped: the number of backslashes directly before it is
-- even.
abbrev pub Counts : List ℕ → Type 0
Counts front = backslashes (reverse front) % 2 ≡ 0

-- None of these bytes is a separator that isn't escaped.
abbrev pub HasNone : ℕ → List ℕ → Type 0
HasNone separator w = (i : ℕ) → i < length w → slice_index w i ≡ separator → Counts (take i w) → ⊥

-- The text up to its first separator that isn't escaped, and the text after that separator, or None
-- if there is no such separator.
abbrev pub IsFirstPiece : ℕ → List ℕ → List ℕ → Option (List ℕ) → Type 0
IsFirstPiece separator text piece None = (text ≡ piece) × HasNone separator piece
IsFirstPiece separator text piece (Some rest) = (text ≡ piece ++ (separator ∷ rest))
    × HasNone separator piece × Counts piece

-- A value before the values that the rest of the text yields.
abbrev pub in_front_of : {A E : Type 0} → A → Result (List A) E → Result (List A) E
in_front_of a (Ok values) = Ok (a ∷ values)
in_front_of a (Err e) = Err e

-- The pieces of a text are parsed from left to right, up to the first that is rejected.
pub data ReadsPieces {A E : Type 0} (separator : ℕ) (reads : List ℕ → Result A E → Type 0) : List ℕ
    → Result (List A) E → Type 0 where
  last : (text piece : List ℕ) (a : A) → IsFirstPiece separator text piece None → reads piece (Ok a)
      → ReadsPieces separator reads text (Ok (a ∷ []))
  more : (text piece rest : List ℕ) (a : A) (r : Result (List A) E)
      → IsFirstPiece separator text piece (Some rest) → reads piece (Ok a)
      → ReadsPieces separator reads rest r → ReadsPieces separator reads text (in_front_of a r)
  refused : (text piece : List ℕ) (left : Option (List ℕ)) (e : E)
      → IsFirstPiece separator text piece left → reads piece (Err e)
      → ReadsPieces separator reads text (Err e)

-- The bytes before and after an index.
abbrev pub halves_at : Option ℕ → List ℕ → Option (List ℕ × List ℕ)
halves_at None text = None
halves_at (Some i) text = Some (take i text, drop (i + 1) text)

-- The bytes before the first = (61) and the bytes after it.
abbrev pub key_and_value : List ℕ → Option (List ℕ × List ℕ)
key_and_value text = halves_at (position (λ c. c == 61) text) text
