-- Object identifiers that callers pass as content bytes (X.690 8.19).
use Rattle.std.specs.Prelude.{◌≡◌, ◌≤◌, ℕ, List, length}
use Rattle.cert_desk_bundle.specs.Oid.Bound.{Bound, max_size}
use Rattle.cert_desk_bundle.specs.Oid.IdentifierOctets.{IsIdentifier, identifier_octets}

-- The bytes, at most 39, are the content of the identifier with these arcs.
abbrev pub SpellsIdentifier : List ℕ → List ℕ → Type 0
SpellsIdentifier octets arcs = IsIdentifier Bound arcs × (length octets ≤ max_size)
    × (octets ≡ identifier_octets arcs)

-- The bytes are the content of some identifier.
abbrev pub IsSomeIdentifier : List ℕ → Type 0
IsSomeIdentifier octets = (arcs : List ℕ) × SpellsIdentifier octets arcs

-- The bytes aren't the content of any identifier.
abbrev pub IsNoIdentifier : List ℕ → Type 0
IsNoIdentifier octets = (arcs : List ℕ) → SpellsIdentifier octets arcs → ⊥
