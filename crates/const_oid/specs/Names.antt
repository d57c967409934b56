-- Lookups in a list of object identifiers and their names.
use Rattle.std.specs.Prelude.{ℕ, List, [], ◌∷◌, Option, Some, None, map, nat_eq, if◌then◌else◌}
use Rattle.std.specs.Prelude.{Result, Ok, Err, unwrap_or}
use Rattle.const_oid.specs.declared.error.Error.{Error}
use Rattle.std.specs.Borrow.{Bor}
use Rattle.std.specs.Char.{to_ascii_lowercase}
use Rattle.std.specs.Cmp.Lexicographic.{pointwise}
use Rattle.const_oid.specs.IdentifierOctets.{identifier_octets}

-- An identifier and its name.
abbrev pub Entry : Type 0
Entry = Bor (List ℕ) × Bor (List ℕ)

-- The names of an identifier, in the order of the entries.
abbrev pub names_of : List ℕ → List Entry → List (List ℕ)
names_of arcs [] = []
names_of arcs (e ∷ entries) =
    if pointwise nat_eq (identifier_octets e.0.now) (identifier_octets arcs) then e.1.now
    ∷ names_of arcs entries else names_of arcs entries

-- The first element of a list, or `None` if it is empty.
abbrev pub first : List (List ℕ) → Option (List ℕ)
first [] = None
first (x ∷ xs) = Some x

-- The identifier of the first entry that has this name, compared without regard to ASCII case.
abbrev pub by_name : List ℕ → List Entry → Option (List ℕ)
by_name name [] = None
by_name name (e ∷ entries) =
    if pointwise nat_eq (map to_ascii_lowercase e.1.now) (map to_ascii_lowercase name)
    then Some e.0.now else by_name name entries

-- The first name of the identifier that a text parses to, the text itself if that has no name, or
-- the error of parsing it.
abbrev pub resolved : List ℕ → List Entry → Result (List ℕ) Error → Result (List ℕ) Error
resolved text entries (Ok arcs) = Ok (unwrap_or (first (names_of arcs entries)) text)
resolved text entries (Err e) = Err e
