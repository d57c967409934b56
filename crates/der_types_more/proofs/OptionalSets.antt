-- Lemmas about sets without members, and about their encodings.
use Rattle.std.proofs.Common.{◌≡◌, ℕ, suc, ◌==◌, ◌<◌, ◌≤◌, Bool, true, List, [], ◌∷◌, ◌++◌, Ok, bytes_eq, length, refl, sym, ap, subst, ◌∙◌, arith, length-append, Equal, Greater}
use Rattle.std.specs.List.{flat_map}
use Rattle.std.proofs.lemmas.Bool.Decides.{same_from_decides, Decides-eqb, Decides-like, nat_tests}
use Rattle.std.proofs.lemmas.List.{append-nil}
use Rattle.std.proofs.lemmas.Slice.Eq.{bytes_eq-Decides}
use Rattle.der_core.specs.TagTypes.Tag.{Tag}
use Rattle.der_core.specs.Defaults.{short_tlv}
use Rattle.der_core.specs.Grammar.{read, read_in_order, plain_list, tlv_at, value_at}
use Rattle.der_core.specs.Heads.{Fits, tlv, head_octets, length_octets}
use Rattle.der_core.specs.Orders.{octets_cmp}
use Rattle.der_core.specs.Shapes.{Shape, Value, tagged, nested, rising, octets_of, contents, body_octets, IsValid, IsContent, IsBody}
use Rattle.der_core.specs.Spelling.{is_element}
use Rattle.der_core.specs.Tags.{IsTag, tag_octets, number_octets, number_of}
use Rattle.der_core.proofs.HeadLaws.{length-short, length-long, head_again}
use Rattle.der_core.proofs.ShapeOrders.{elements_cmp}
use Rattle.der_core.proofs.TagLaws.{same_tag-refl, tag-0, tag-1, tag-2, tag-3, tag-4, tag-5}

-- The encodings of members aren't empty.

some_octets : (s : Shape) (x : Value s) (xs : List (Value s)) → is_element s ≡ true → flat_map (octets_of s) (x ∷ xs) ≡ [] → Equal ≡ Greater
some_octets s x xs e h = ap (λ (w : List ℕ). octets_cmp w []) (sym h) ∙ elements_cmp s (x ∷ xs) [] e

members_none : {A : Type 0} (s : Shape) (f : A → Value s) (xs : List A) → is_element s ≡ true → flat_map (octets_of s) (plain_list f xs) ≡ [] → length xs ≡ 0
members_none s f [] e h = refl
members_none s f (x ∷ xs) e h = absurd (let wrong = some_octets s (f x) (plain_list f xs) e h in cc)

none_octets : {A : Type 0} (s : Shape) (f : A → Value s) (xs : List A) → length xs ≡ 0 → flat_map (octets_of s) (plain_list f xs) ≡ []
none_octets s f [] h = refl
none_octets s f (x ∷ xs) h = absurd (omega arith)

none_only : {A : Type 0} (s : Shape) (f : A → Value s) (xs : List A) → is_element s ≡ true
    → (length xs == 0) ≡ bytes_eq (flat_map (octets_of s) (plain_list f xs)) []
none_only s f xs e =
    let w = flat_map (octets_of s) (plain_list f xs) in
    same_from_decides (length xs == 0) (bytes_eq w []) (Decides-eqb (length xs) 0)
    (Decides-like (bytes_eq w []) (λ h. members_none s f xs e h) (λ h. none_octets s f xs h) (bytes_eq-Decides w []))

none_fine : {A : Type 0} (s : Shape) (f : A → Value s) (xs : List A) → length xs ≡ 0 → IsContent (nested (rising s)) (plain_list f xs)
unfolding IsContent IsBody
none_fine s f [] h = (tt, tt)
none_fine s f (x ∷ xs) h = absurd (omega arith)

-- The encoding without members

tag_few : (t : Tag) → IsTag t → length (tag_octets t) ≤ 6
tag_few t h = grind (arith, nat_tests, tag-0 t, tag-1 t, tag-2 t, tag-3 t, tag-4 t, tag-5 t)

length_some : (n : ℕ) → 0 < length (length_octets n)
length_some n = grind (arith, nat_tests, length-short n, (λ (h : 128 ≤ n). length-long n _ h refl))

short_head : (t : Tag) → head_octets t 0 ≡ short_tlv t []
unfolding head_octets tag_octets
short_head t = rw (length-short 0 (omega arith)) refl

short_none : (t : Tag) → tlv t [] ≡ short_tlv t []
unfolding tlv
short_none t = append-nil (head_octets t 0) ∙ short_head t

none_alone : (t : Tag) (c : List ℕ) → tlv t c ≡ short_tlv t [] → c ≡ []
unfolding tlv head_octets tag_octets
none_alone t [] e = refl
none_alone t (x ∷ xs) e =
    absurd (omega (arith, ap length e, length-append (tag_octets t ++ length_octets (suc (length xs))) (x ∷ xs), length-append (tag_octets t) (length_octets (suc (length xs))), length_some (suc (length xs)), length-append (number_octets (number_of t)) (0 ∷ [])))

-- A set has no members exactly if it has this encoding.
pub default_same : {A : Type 0} (t : Tag) (s : Shape) (f : A → Value s) (xs : List A) (r : Bool) → is_element s ≡ true → r ≡ (length xs == 0)
    → r ≡ bytes_eq (octets_of (tagged t (nested (rising s))) (plain_list f xs)) (short_tlv t [])
unfolding octets_of contents body_octets
default_same t s f xs r e h =
    let w = flat_map (octets_of s) (plain_list f xs) in
    h ∙ none_only s f xs e
    ∙ same_from_decides (bytes_eq w []) (bytes_eq (tlv t w) (short_tlv t [])) (bytes_eq-Decides w [])
    (Decides-like (bytes_eq (tlv t w) (short_tlv t [])) (λ e. none_alone t w e) (λ e. ap (tlv t) e ∙ short_none t) (bytes_eq-Decides (tlv t w) (short_tlv t [])))

short_few : (t : Tag) → IsTag t → length (short_tlv t []) ≤ 7
unfolding tag_octets
short_few t h = omega (arith, tag_few t h, length-append (number_octets (number_of t)) (0 ∷ []))

none_fits : (t : Tag) → IsTag t → Fits (tlv t [])
none_fits t h =
    let few : length (tlv t []) ≤ 7 = subst (λ (w : List ℕ). length w ≤ 7) (sym (short_none t)) (short_few t h) in
    omega (arith, few)

none_is_valid : {A : Type 0} (t : Tag) (s : Shape) (f : A → Value s) (xs : List A) → IsTag t → length xs ≡ 0 → IsValid (tagged t (nested (rising s))) (plain_list f xs)
unfolding IsValid contents body_octets
none_is_valid t s f [] tag h = (none_fine s f [] h, tag, none_fits t tag)
none_is_valid t s f (x ∷ xs) tag h = absurd (omega arith)

-- A set without members is valid.
pub default_valid : {A : Type 0} (t : Tag) (s : Shape) (f : A → Value s) (xs : List A) (r : Bool) → IsTag t → r ≡ (length xs == 0) → r ≡ true
    → IsValid (tagged t (nested (rising s))) (plain_list f xs)
default_valid t s f xs r tag h e = none_is_valid t s f xs tag ((Decides-eqb (length xs) 0).0 (sym h ∙ e))

-- The encoding of a set without members decodes to it.
pub default_read : (t : Tag) (s : Shape) → IsTag t → read (tagged t (nested (rising s))) 64 (short_tlv t []) ≡ Ok ([], [])
unfolding tlv_at value_at read_in_order
default_read t s tag =
    let w : head_octets t 0 ++ [] ≡ short_tlv t [] = append-nil (head_octets t 0) ∙ short_head t in
    ap (λ (x : List ℕ). read (tagged t (nested (rising s))) 64 x) (sym w) ∙ rw (head_again t 0 [] tag (omega arith), same_tag-refl t) refl
