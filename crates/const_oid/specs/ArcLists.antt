-- Collecting an object identifier from its arcs, one after another, up to the first error.
use Rattle.std.specs.Prelude.{ℕ, Bool, false, List, [], ◌∷◌, ◌++◌, length, nat_lt, if◌then◌else◌}
use Rattle.std.specs.Prelude.{Result, Ok, Err, Option, Some, None, option_to_list, ◌≤◌}
use Rattle.const_oid.specs.declared.error.Error.{Error}
use Rattle.const_oid.specs.declared.error.Error.TheVariants as errors
use Rattle.const_oid.specs.IdentifierOctets.{identifier_octets}

-- True if an arc is out of range after these: a first arc above 2, or a second arc above 39.
abbrev pub is_misplaced : List ℕ → ℕ → Bool
is_misplaced [] a = nat_lt 2 a
is_misplaced (x ∷ []) a = nat_lt 39 a
is_misplaced (x ∷ y ∷ arcs) a = false

-- The arcs with one more arc, if it is in range and the encoding is within the capacity.
unfoldable pub add_arc : (capacity : ℕ) → List ℕ → ℕ → Result (List ℕ) Error
add_arc capacity arcs a =
    if is_misplaced arcs a then Err (errors.ArcInvalid a)
    else (if nat_lt capacity (length (identifier_octets (arcs ++ a ∷ []))) then Err errors.Length
    else Ok (arcs ++ a ∷ []))

-- The collected arcs, of which there must be at least two.
unfoldable pub whole_arcs : List ℕ → Result (List ℕ) Error
whole_arcs arcs = if nat_lt (length arcs) 2 then Err errors.Empty else Ok arcs

-- Runs the next step on the arcs of the step before, or returns its error.
abbrev pub and_then : Result (List ℕ) Error → (List ℕ → Result (List ℕ) Error)
    → Result (List ℕ) Error
and_then (Ok arcs) rest = rest arcs
and_then (Err e) rest = Err e

-- Collects the arcs of a list after those that are already there.
unfoldable pub gather : (capacity : ℕ) → (arcs : List ℕ) → List ℕ → Result (List ℕ) Error
gather capacity arcs [] = whole_arcs arcs
gather capacity arcs (a ∷ list) =
    and_then (add_arc capacity arcs a) (λ more. gather capacity more list)

-- The arcs that an encoder has collected: those of its identifier, or a single first arc, or none.
abbrev pub arcs_so_far : Option ℕ → Option (List ℕ) → List ℕ
arcs_so_far first None = option_to_list first
arcs_so_far first (Some arcs) = arcs

-- An encoder's two fields agree: a first arc without an identifier is at most 2, and an identifier
-- has at least two arcs.
abbrev pub IsSoFar : Option ℕ → Option (List ℕ) → Type 0
IsSoFar None None = Unit {0}
IsSoFar (Some first) None = first ≤ 2
IsSoFar None (Some arcs) = ⊥
IsSoFar (Some first) (Some arcs) = 2 ≤ length arcs
