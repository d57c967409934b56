-- Object identifiers and their encodings (X.690 8.19). Each definition takes the bound of arcs as
-- an argument.
use Rattle.std.specs.Prelude.{ℕ, ◌+◌, ◌*◌, ◌/◌, ◌%◌, ◌<◌, ◌≤◌, ◌&&◌, ◌==◌, true, false, ltb, List}
use Rattle.std.specs.Prelude.{[], ◌∷◌, length, Result, Ok, Err}
use Rattle.std.specs.List.{AllByRecursion, flat_map}
use Rattle.const_oid.specs.declared.error.Error.{Error}
use Rattle.const_oid.specs.declared.error.Error.TheVariants as errors
use Rattle.const_oid.specs.Digits.{digits, marked}

-- The encoding of one arc (X.690 8.19.2): its digits in base 128, with bit 8 set in all bytes but
-- the last.
unfoldable pub arc_octets : ℕ → List ℕ
arc_octets n = marked (digits 128 n)

-- The encoding of an identifier. The first two arcs share a byte (X.690 8.19.4), and each later arc
-- is encoded by itself (X.690 8.19.2).
unfoldable pub identifier_octets : List ℕ → List ℕ
identifier_octets (a ∷ b ∷ arcs) = (40 * a + b) ∷ flat_map arc_octets arcs
identifier_octets _ = []

-- An identifier has at least two arcs. The first is at most 2, the second at most 39, and the
-- others are below the bound.
unfoldable pub IsIdentifier : (bound : ℕ) → List ℕ → Type 0
IsIdentifier bound (a ∷ b ∷ arcs) = (a ≤ 2) × (b < 40) × AllByRecursion (λ n. n < bound) arcs
IsIdentifier bound _ = ⊥

-- Puts an arc before the decoded arcs, or passes on their error.
abbrev pub with_arc : ℕ → Result (List ℕ) Error → Result (List ℕ) Error
with_arc a (Ok arcs) = Ok (a ∷ arcs)
with_arc a (Err e) = Err e

-- Decodes the arcs after the first two, up to the first error. `value` is the value of the bytes of
-- an unfinished arc, and 0 between two arcs.
abbrev pub read_arcs : (bound value : ℕ) → List ℕ → Result (List ℕ) Error
read_arcs bound value [] = elim (value == 0) [ true ↦ Ok [] | false ↦ Err errors.Base128 ]
read_arcs bound value (o ∷ w) =
    elim ((value == 0) && (o == 128)) [
      | true ↦ Err errors.Base128
      | false ↦ elim (ltb (value * 128 + o % 128) bound) [
        | false ↦ Err errors.ArcTooBig
        | true ↦ elim (ltb o 128) [
          | true ↦ with_arc (value * 128 + o % 128) (read_arcs bound 0 w)
          | false ↦ read_arcs bound (value * 128 + o % 128) w
        ]
      ]
    ]

-- Decodes an identifier of at most `capacity` bytes, up to the first error.
abbrev pub read_identifier : (bound capacity : ℕ) → List ℕ → Result (List ℕ) Error
read_identifier bound capacity [] = Err errors.Empty
read_identifier bound capacity (r ∷ w) =
    elim (ltb capacity (length (r ∷ w))) [
      | true ↦ Err errors.Length
      | false ↦ elim (ltb r 120) [
        | false ↦ Err (errors.ArcInvalid (r / 40))
        | true ↦ with_arc (r / 40) (with_arc (r % 40) (read_arcs bound 0 w))
      ]
    ]
