-- The invariant of an RDN's attributes.
use Rattle.std.specs.Prelude.{◌≡◌, ℕ, List, [], ◌∷◌, ⊤, false}
use Rattle.std.specs.List.{IsDistinct}
use Rattle.der_types.specs.Sets.{Ascends}
use Rattle.x509_cert_names.specs.Names.{type_and_value}
use Rattle.x509_cert_names.specs.Pairs.{pair_plain, same_pair}
use Rattle.x509_cert_names.specs.declared.attribute_type_and_value.AttributeTypeAndValue.{AttributeTypeAndValue}

-- The attributes are in ascending order of their encodings, and no two are equal.
abbrev pub IsOrdered : ℕ → List AttributeTypeAndValue → Type 0
IsOrdered bound r = IsDistinct same_pair r × Ascends (type_and_value bound) pair_plain r

-- Each attribute differs from the next one.
abbrev pub DifferInTurn : List AttributeTypeAndValue → Type 0
DifferInTurn [] = ⊤
DifferInTurn (a ∷ []) = ⊤
DifferInTurn (a ∷ b ∷ r) = (same_pair a b ≡ false) × DifferInTurn (b ∷ r)
