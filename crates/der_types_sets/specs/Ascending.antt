-- Sets whose bytes are kept: members in ascending order, none of which is less than the one before
-- it (X.690 8.12, 11.6).
use Rattle.std.specs.Prelude.{◌≡◌, ℕ, zero, suc, List, [], ◌∷◌, length, flat_map, Result, Ok, Err}
use Rattle.der_core.specs.ErrorTypes.ErrorKind.{ErrorKind}
use Rattle.der_core.specs.Octets.{Readings}
use Rattle.der_core.specs.Shapes.{Shape, Value, octets_of, AllAscending}
use Rattle.der_core.specs.Placed.{AllValid}

-- The bytes are the concatenated encodings of the members, none of which is less than the one
-- before it.
pub record JoinsAscending (s : Shape) (members : List (Value s)) (octets : List ℕ) : Type 0 where
  pub valid : AllValid s (λ v. v) members
  pub octets_are : octets ≡ flat_map (octets_of s) members
  pub ascend : AllAscending (octets_of s) members

-- Decoding gave `n` values, up to the end.
abbrev pub IsCount : {P : Type 0} → Result (List P × List ℕ) ErrorKind → ℕ → Type 0
IsCount {P} r n = (values : List P) × (r ≡ Ok (values, [])) × (length values ≡ n)

-- The decoded value, and the values after it.
abbrev pub first_of : {P : Type 0} → Result (P × List ℕ) ErrorKind → (List ℕ → List P) → List P
first_of (Ok x) f = x.0 ∷ f x.1
first_of (Err e) f = []

-- The first `n` values that decoding the bytes gives.
abbrev pub values_at : {P : Type 0} → Readings P → ℕ → List ℕ → List P
values_at f zero w = []
values_at f (suc n) w = first_of (f w) (values_at f n)
