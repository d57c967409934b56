-- The dotted texts of object identifiers, and the errors of other texts. The error is that of the
-- shortest prefix that has one.
use Rattle.std.specs.Prelude.{◌≡◌, ℕ, ◌+◌, ◌*◌, ◌<◌, ◌≤◌, List, [], ◌∷◌, ◌++◌, length, replicate}
use Rattle.std.specs.Prelude.{Option, Some, None, unwrap_or}
use Rattle.std.specs.List.{AllByRecursion, flat_map, join_with_byte}
use Rattle.const_oid.specs.declared.error.Error.{Error}
use Rattle.const_oid.specs.declared.error.Error.TheVariants as errors
use Rattle.const_oid.specs.DottedText.{decimal}
use Rattle.const_oid.specs.ArcFaults.{IsFaultless, IsNextFault}

-- A number in decimal ASCII digits, with any number of leading zeros.
pub record IsDecimal (n : ℕ) (piece : List ℕ) : Type 0 where
  pub zeros : ℕ
  pub spelled : piece ≡ replicate zeros 48 ++ decimal n

-- Each piece is the arc at its index in decimal.
abbrev pub AreDecimals : List ℕ → List (List ℕ) → Type 0
AreDecimals [] [] = Unit {0}
AreDecimals (a ∷ arcs) (piece ∷ pieces) = IsDecimal a piece × AreDecimals arcs pieces
AreDecimals _ _ = ⊥

-- A dotted text of these arcs: each is in decimal, and they are separated by dots.
pub record IsDottedText (arcs text : List ℕ) : Type 0 where
  pub pieces : List (List ℕ)
  pub decimals : AreDecimals arcs pieces
  pub joined : text ≡ join_with_byte 46 pieces

-- The pieces, each followed by a dot.
abbrev pub with_dots : List (List ℕ) → List ℕ
with_dots = flat_map (λ piece. piece ++ (46 ∷ []))

-- The digits of an unfinished arc and its value, or no digits if no arc has begun.
abbrev pub IsBegun : (bound : ℕ) → Option ℕ → List ℕ → Type 0
IsBegun bound None piece = piece ≡ []
IsBegun bound (Some value) piece = IsDecimal value piece × (value < bound)

-- A prefix without an error: complete arcs, each followed by a dot, and then the first digits of an
-- unfinished arc, or nothing.
pub record IsOpenText (bound capacity : ℕ) (front arcs : List ℕ) (begun : Option ℕ) : Type 0 where
  pub pieces : List (List ℕ)
  pub last : List ℕ
  pub decimals : AreDecimals arcs pieces
  pub below : AllByRecursion (λ a. a < bound) arcs
  pub faultless : IsFaultless capacity arcs
  pub begins : IsBegun bound begun last
  pub spelled : front ≡ with_dots pieces ++ last

-- The unfinished arc ends here: at the end of the text, or at a dot that isn't the last byte.
pub data EndsArc (text front : List ℕ) : Type 0 where
  at_end : text ≡ front → EndsArc text front
  at_dot : (c : ℕ) (rest : List ℕ) → text ≡ front ++ (46 ∷ c ∷ rest) → EndsArc text front

-- The errors: of the byte after a prefix without an error, or of the end of the text.
pub data IsTextFault (bound capacity : ℕ) (text : List ℕ) : Error → Type 0 where
  no_text : text ≡ [] → IsTextFault bound capacity text errors.Empty
  first_dot : (rest : List ℕ) → text ≡ 46 ∷ rest
      → IsTextFault bound capacity text (errors.DigitExpected 46)
  -- A byte is neither a digit nor a dot.
  no_digit : (front rest arcs : List ℕ) (begun : Option ℕ) (c : ℕ) → text ≡ front ++ (c ∷ rest)
      → IsOpenText bound capacity front arcs begun
      → ¬ (c ≡ 46) → ¬ ((48 ≤ c) × (c ≤ 57))
      → IsTextFault bound capacity text (errors.DigitExpected c)
  -- A dot follows a dot.
  repeated_dot : (front rest arcs : List ℕ) → text ≡ front ++ (46 ∷ rest)
      → IsOpenText bound capacity front arcs None → 0 < length arcs
      → IsTextFault bound capacity text errors.RepeatedDot
  -- A dot is the last byte.
  trailing_dot : (front arcs : List ℕ) (a : ℕ) → text ≡ front ++ (46 ∷ [])
      → IsOpenText bound capacity front arcs (Some a)
      → IsTextFault bound capacity text errors.TrailingDot
  -- With this digit, the arc reaches the bound.
  too_big : (front rest arcs : List ℕ) (begun : Option ℕ) (d : ℕ) → text ≡ front
      ++ ((48 + d) ∷ rest) → IsOpenText bound capacity front arcs begun
      → d ≤ 9 → bound ≤ unwrap_or begun 0 * 10 + d
      → IsTextFault bound capacity text errors.ArcTooBig
  -- An arc that ends is out of range, or the encoding exceeds the capacity with it.
  arc : (front arcs : List ℕ) (a : ℕ) (e : Error) → EndsArc text front
      → IsOpenText bound capacity front arcs (Some a) → IsNextFault capacity arcs a e
      → IsTextFault bound capacity text e
  -- There is only one arc.
  one_arc : (a : ℕ) → IsOpenText bound capacity text [] (Some a) → a ≤ 2
      → IsTextFault bound capacity text errors.Empty
