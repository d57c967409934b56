-- Parsing dotted texts, up to the first error.
use Rattle.std.specs.Prelude.{ℕ, ◌+◌, ◌-◌, ◌*◌, ◌==◌, ◌&&◌, true, false, nat_lt, nat_le, List, []}
use Rattle.std.specs.Prelude.{◌∷◌, if◌then◌else◌, Result, Ok, Err, Option, Some, None, unwrap_or}
use Rattle.const_oid.specs.declared.error.Error.{Error}
use Rattle.const_oid.specs.declared.error.Error.TheVariants as errors
use Rattle.const_oid.specs.ArcLists.{add_arc, whole_arcs, and_then}

-- The value of an unfinished arc with one more byte, which must be a digit.
abbrev pub with_digit : (bound : ℕ) → Option ℕ → ℕ → Result ℕ Error
with_digit bound value c =
    if nat_le 48 c && nat_lt c 58
    then (if nat_lt (unwrap_or value 0 * 10 + (c - 48)) bound
    then Ok (unwrap_or value 0 * 10 + (c - 48)) else Err errors.ArcTooBig)
    else Err (errors.DigitExpected c)

-- The error of a dot where a digit is required.
abbrev pub early_dot : List ℕ → Error
early_dot [] = errors.DigitExpected 46
early_dot (a ∷ arcs) = errors.RepeatedDot

-- Goes on with the value of an arc, or passes on its error.
abbrev pub and_value : Result ℕ Error → (ℕ → Result (List ℕ) Error) → Result (List ℕ) Error
and_value (Ok value) rest = rest value
and_value (Err e) rest = Err e

-- The result at a dot. It is an error if no text follows the dot.
abbrev pub behind_dot : List ℕ → Result (List ℕ) Error → Result (List ℕ) Error
behind_dot [] r = Err errors.TrailingDot
behind_dot (c ∷ w) r = r

-- The result of the text that is left, after these arcs and an unfinished arc of this value, if
-- there is one.
unfoldable pub text_arcs : (bound capacity : ℕ) → (arcs : List ℕ) → (value : Option ℕ) → List ℕ
    → Result (List ℕ) Error
text_arcs bound capacity arcs None [] = Err errors.Empty
text_arcs bound capacity arcs (Some value) [] = and_then (add_arc capacity arcs value) whole_arcs
text_arcs bound capacity arcs value (c ∷ w) =
    elim (c == 46) [
      | false ↦ and_value (with_digit bound value c)
          (λ next. text_arcs bound capacity arcs (Some next) w)
      | true ↦ elim value [
        | None ↦ Err (early_dot arcs)
        | Some arc ↦ behind_dot w
            (and_then (add_arc capacity arcs arc) (λ more. text_arcs bound capacity more None w))
      ]
    ]

-- Parses a dotted text to its arcs.
abbrev pub read_text : (bound capacity : ℕ) → List ℕ → Result (List ℕ) Error
read_text bound capacity w = text_arcs bound capacity [] None w
