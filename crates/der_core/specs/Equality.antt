-- The relation of a type's `==` to abstract values.
use Rattle.std.specs.Prelude.{◌≡◌, ℕ, List, Bool, true}

-- Values that `==` takes for equal have the same encoding, and values with the same abstract value
-- are equal.
pub record IsOfValues {T V : Type 0} (eq : T → T → Bool) (plain : T → V) (octets : V → List ℕ)
    : Type 0 where
  pub encoding : (x y : T) → eq x y ≡ true → octets (plain x) ≡ octets (plain y)
  pub itself : (x y : T) → plain x ≡ plain y → eq x y ≡ true
