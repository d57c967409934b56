-- A lemma about optional fields.
use Rattle.std.specs.Prelude.{◌≡◌, Option, None, Some, refl}
use Rattle.der_core.specs.Grammar.{plain_option}

-- To map an optional value twice is to map it once.
pub twice : {A B C : Type 0} (f : B → C) (g : A → B) (o : Option A)
    → plain_option f (plain_option g o) ≡ plain_option (λ x. f (g x)) o
twice f g None = refl
twice f g (Some x) = refl
