-- The children and the parent of an object identifier.
use Rattle.std.specs.Prelude.{ℕ, ◌-◌, List, [], ◌∷◌, ◌++◌, length, take, nat_lt, if◌then◌else◌}
use Rattle.std.specs.Prelude.{Option, Some, None, Result, Ok, Err}
use Rattle.const_oid.specs.declared.error.Error.{Error}
use Rattle.const_oid.specs.declared.error.Error.TheVariants as errors
use Rattle.const_oid.specs.IdentifierOctets.{identifier_octets}

-- The identifier with one more arc, or `Length` if its encoding exceeds the capacity.
abbrev pub child_of : (capacity : ℕ) → List ℕ → ℕ → Result (List ℕ) Error
child_of capacity arcs a =
    if nat_lt capacity (length (identifier_octets (arcs ++ a ∷ []))) then Err errors.Length
    else Ok (arcs ++ a ∷ [])

-- The identifier without its last arc, or `None` if it has only two arcs.
abbrev pub parent_of : List ℕ → Option (List ℕ)
parent_of arcs = if nat_lt 2 (length arcs) then Some (take (length arcs - 1) arcs) else None
