-- Lemmas about the members after the first one.
use Rattle.std.proofs.Common.{◌≡◌, ℕ, ◌<◌, length, get_or, arith, List, [], ◌∷◌, ◌++◌, Option, Some, None, true, refl, sym, ap, ◌∙◌, append_assoc, Equal, Greater}
use Rattle.std.specs.List.{flat_map}
use Rattle.std.proofs.lemmas.Bool.{and_parts}
use Rattle.der_core.specs.TagTypes.Tag.{Tag}
use Rattle.der_core.specs.Grammar.{plain_list}
use Rattle.der_core.specs.Orders.{StartsWith, octets_cmp}
use Rattle.der_core.specs.Shapes.{Shape, Value, many, octets_of, body_octets, begins}
use Rattle.der_core.specs.Spelling.{is_apart, is_body_apart, is_element, body_begins}
use Rattle.der_core.specs.Tags.{tag_octets}
use Rattle.der_core.proofs.ShapeOrders.{elements_cmp}

some_octets : (s : Shape) (x : Value s) → is_element s ≡ true → octets_of s x ≡ [] → Equal ≡ Greater
some_octets s x e h = ap (λ (w : List ℕ). octets_cmp (w ++ []) []) (sym h) ∙ elements_cmp s (x ∷ []) [] e

-- The first tag of a list is that of its first member.
many_starts : (s : Shape) (x : Value s) (xs : List (Value s)) (t : Option Tag) → StartsWith (begins s) t (octets_of s x)
    → is_body_apart (many s) ≡ true → StartsWith (body_begins (many s)) t (body_octets (many s) (x ∷ xs))
unfolding body_octets
many_starts s x xs None h a = absurd (let wrong = some_octets s x (and_parts (is_element s) (is_apart s) a).0 h in cc)
many_starts s x xs (Some t) h a =
    let rest = flat_map (octets_of s) xs in
    (h.0 ++ rest, ap (λ (w : List ℕ). w ++ rest) h.1 ∙ append_assoc (tag_octets t) h.0 rest, h.2, h.3)

pub list_starts : {A : Type 0} (s : Shape) (f : A → Value s) (xs : List A) (d : A) (t : Option Tag) → 0 < length xs → StartsWith (begins s) t (octets_of s (f (get_or xs 0 d)))
    → is_body_apart (many s) ≡ true → StartsWith (body_begins (many s)) t (body_octets (many s) (plain_list f xs))
list_starts s f [] d t h i a = absurd (omega arith)
list_starts s f (x ∷ xs) d t h i a = many_starts s (f x) (plain_list f xs) t i a

pub none_starts : {A : Type 0} (s : Shape) (f : A → Value s) (xs : List A) → length xs ≡ 0 → body_octets (many s) (plain_list f xs) ≡ []
unfolding body_octets
none_starts s f [] e = refl
none_starts s f (x ∷ xs) e = absurd (cc e)
