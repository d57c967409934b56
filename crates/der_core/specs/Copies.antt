-- Copies of values.
use Rattle.std.specs.Prelude.{◌≡◌, Result, IfOk}

-- If a copy was made, it has the same abstract value as the original.
abbrev pub IsCopy : {T V E : Type 0} → T → Result T E → (T → V) → Type 0
IsCopy value result plain = IfOk result (λ c. plain c ≡ plain value)
