-- Lemmas about lists of lists whose elements are mapped.
use Rattle.std.proofs.Common.{◌≡◌, List, [], ◌∷◌, ◌++◌, reverse, refl, sym, ap, ◌∙◌, subst, flat_map}
use Rattle.std.proofs.lemmas.List.{reverse-append}
use Rattle.std.specs.List.{AllByRecursion}
use Rattle.der_core.specs.Grammar.{plain_list}
use Rattle.der_core.proofs.Results.{plain-append}

pub plain_all : {A B : Type 0} (f : A → B) (xs : List (List A)) → plain_list f (flat_map (λ r. r) xs) ≡ flat_map (λ r. r) (plain_list (plain_list f) xs)
plain_all f [] = refl
plain_all f (x ∷ xs) = plain-append f x (flat_map (λ r. r) xs) ∙ ap (λ zs. plain_list f x ++ zs) (plain_all f xs)

pub all_more : {A : Type 0} (P : A → Type 0) (xs : List A) (y : A) → AllByRecursion P xs → P y → AllByRecursion P (xs ++ y ∷ [])
all_more P [] y h p = (p, tt)
all_more P (x ∷ xs) y h p = (h.0, all_more P xs y h.1 p)

pub all_turned : {A : Type 0} (P : A → Type 0) (xs : List A) → AllByRecursion P xs → AllByRecursion P (reverse xs)
all_turned P [] h = tt
all_turned {A} P (x ∷ xs) h = subst (λ (ys : List A). AllByRecursion P ys) (sym (reverse-append (x ∷ []) xs)) (all_more P (reverse xs) x (all_turned P xs h.1) h.0)
