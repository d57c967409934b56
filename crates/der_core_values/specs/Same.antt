-- Lemmas that impls cite: two views that agree on each value agree on options and on lists of
-- values.
use Rattle.std.specs.Prelude.{◌≡◌, List, [], ◌∷◌, Option, Some, None, refl}
use Rattle.std.proofs.Common.{ap, ◌∙◌}
use Rattle.der_core_octets.specs.CoreHead.Grammar.{plain_option, plain_list}

pub same_option : {A B : Type 0} {f g : A → B} → ((x : A) → f x ≡ g x) → (o : Option A)
    → plain_option f o ≡ plain_option g o
same_option h None = refl
same_option h (Some x) = ap (λ y. Some y) (h x)

pub same_list : {A B : Type 0} {f g : A → B} → ((x : A) → f x ≡ g x) → (xs : List A)
    → plain_list f xs ≡ plain_list g xs
same_list h [] = refl
same_list {f = f} {g = g} h (x ∷ xs) = ap (λ y. y ∷ plain_list f xs) (h x)
    ∙ ap (λ ys. g x ∷ ys) (same_list h xs)
