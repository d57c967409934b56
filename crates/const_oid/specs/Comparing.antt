-- Equality of object identifiers, and the order of borrowed ones.
use Rattle.std.specs.Prelude.{◌≢◌, ℕ, List, Bool, nat_eq}
use Rattle.std.specs.declared.cmp.Ordering.{Ordering}
use Rattle.std.specs.declared.cmp.Ordering.TheVariants.{Greater}
use Rattle.std.specs.Ordering.{nat_cmp, on}
use Rattle.std.specs.Cmp.Lexicographic.{pointwise, slice_cmp}
use Rattle.const_oid.specs.IdentifierOctets.{identifier_octets}

-- Equality of identifiers: their encodings are equal.
abbrev pub owned_eq : List ℕ → List ℕ → Bool
owned_eq a b = pointwise nat_eq (identifier_octets a) (identifier_octets b)

-- The order of borrowed identifiers: that of their encodings as lists of bytes.
abbrev pub borrowed_cmp : List ℕ → List ℕ → Ordering
borrowed_cmp = on identifier_octets (slice_cmp nat_cmp)

-- The first identifier comes before the second in an order, or the order doesn't distinguish them.
abbrev pub IsAtMost : (List ℕ → List ℕ → Ordering) → List ℕ → List ℕ → Type 0
IsAtMost R a b = R a b ≢ Greater
