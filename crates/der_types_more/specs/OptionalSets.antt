-- SETs OF in OPTIONAL fields.
use Rattle.std.specs.Prelude.{◌≡◌, Option, Some, None, refl}

-- What an option contains, under a view, or a value for `None`.
abbrev pub value_or : {A B : Type 0} → B → (A → B) → Option A → B
value_or none f None = none
value_or none f (Some x) = f x

-- Two views that agree on each value agree on options of values.
pub same_value : {A B : Type 0} (none : B) {f g : A → B} → ((x : A) → f x ≡ g x) → (o : Option A)
    → value_or none f o ≡ value_or none g o
same_value none h None = refl
same_value none h (Some x) = h x
