-- Lemmas for the laws about parsing names under two bounds on arcs.
use Rattle.std.proofs.Common.{◌≡◌, ◌↔◌, ℕ, ◌<◌, ◌≤◌, List, [], ◌∷◌, ◌++◌, reverse, Option, Some, None, Result, Ok, Err, refl, sym, ap, ◌∙◌, subst, arith, inl, inr, Bool, true, nat_lt}
use Rattle.std.specs.Prelude.{⊤, map, IsPermutation}
use Rattle.std.specs.List.{AllByRecursion, find, list_all}
use Rattle.std.proofs.lemmas.List.Elements.{All-from_recursion, recursion_from_All}
use Rattle.std.proofs.lemmas.List.Sorted.{All-permutation, IsPermutation-reverse, IsPermutation-sym}
use Rattle.der_core.specs.Bounds.{IsValidUnder, identifiers_of, AreBelow, HoldsLarge}
use Rattle.der_core.specs.Grammar.{plain_list}
use Rattle.der_core.specs.Shapes.{IsValid, octets_of}
use Rattle.der_core.proofs.BoundLaws.{below_or_large, Family, valid_narrow}
use Rattle.der_core.specs.Placed.{AllValid}
use Rattle.der_types.specs.Sets.{Ascends, NotAbove}
use Rattle.x509_cert_name_texts.specs.Keys.{key_arcs, Named, named_types, type_named, dotted_arcs, arcs_or}
use Rattle.x509_cert_name_texts.specs.Pieces.{IsFirstPiece, ReadsPieces, in_front_of}
use Rattle.x509_cert_names.specs.Names.{PlainName, TypeAndValue, type_and_value, name, type_of, all_of}
use Rattle.x509_cert_names.specs.NameTexts.{ReadsAttribute, ReadsName, ReadsRelative}
use Rattle.x509_cert_names.specs.Pairs.{pair_plain, relative_plain}
use Rattle.x509_cert_names.specs.PlainTexts.{SpellsName}
use Rattle.x509_cert_names.specs.declared.attribute_type_and_value.AttributeTypeAndValue.{AttributeTypeAndValue}
use Rattle.x509_cert_names.proofs.NameBounds.{names_alike}
use Rattle.std.proofs.lemmas.Bool.{and_parts, cases_cond, ltb-true}
use Rattle.der_core.specs.Oid.IdentifierOctets.{IsIdentifier}
use Rattle.der_core.specs.Oid.TextReading.{read_text}
use Rattle.der_core.specs.Oid.declared.error.Error.{Error}
use Rattle.der_core.proofs.Oid.TextFaultLaws.{text_sound, text_read}
use Rattle.der_core.proofs.Oid.TextRoundLaws.{all_below}

-- Every arc is below a bound.
abbrev ArcsBelow : ℕ → List ℕ → Type 0
ArcsBelow bound arcs = AllByRecursion (λ n. n < bound) arcs

below_wider : (small large : ℕ) → small ≤ large → (arcs : List ℕ) → ArcsBelow small arcs → ArcsBelow large arcs
below_wider small large le [] h = tt
below_wider small large le (n ∷ arcs) h = (omega (arith, le, h.0), below_wider small large le arcs h.1)

-- The arcs of the types that have a name.

abbrev is_below : ℕ → List ℕ → Bool
is_below bound arcs = list_all (λ n. nat_lt n bound) arcs

from_is_below : (bound : ℕ) (arcs : List ℕ) → is_below bound arcs ≡ true → ArcsBelow bound arcs
from_is_below bound [] e = tt
from_is_below bound (n ∷ arcs) e =
    let p = and_parts (nat_lt n bound) (is_below bound arcs) e in
    (ltb-true n bound p.0, from_is_below bound arcs p.1)

named_below : list_all (λ (t : Named). is_below 19200301 t.arcs) named_types ≡ true
unfolding named_types
named_below = refl

found : {A : Type 0} (p q : A → Bool) (xs : List A) (x : A) → find p xs ≡ Some x → list_all q xs ≡ true → q x ≡ true
found p q [] x e all = absurd (cc e)
found p q (y ∷ xs) x e all =
    let parts = and_parts (q y) (list_all q xs) all in
    elim (cases_cond (p y) (Some y) (find p xs) (Some x) (sym e)) [ inl f ↦ let same : x ≡ y = cc f in ap q same ∙ parts.0 | inr f ↦ found p q xs x (sym f) parts.1 ]

type_below : (bound : ℕ) → 19200300 < bound → (key : List ℕ) (t : Named) → type_named key ≡ Some t → ArcsBelow bound t.arcs
unfolding type_named
type_below bound lt key t e =
    below_wider 19200301 bound (omega (arith, lt)) t.arcs (from_is_below 19200301 t.arcs (found _ (λ (n : Named). is_below 19200301 n.arcs) named_types t e named_below))

-- The arcs of a key are below the bound, if those of all types that have a name are.

-- A dotted text parses to an OID.
dotted : (bound : ℕ) (key arcs : List ℕ) → dotted_arcs (read_text bound 39 key) ≡ Ok arcs → read_text bound 39 key ≡ Ok arcs
dotted bound key arcs e = by (read_text bound 39 key) e
  where
    by : (r : Result (List ℕ) Error) → dotted_arcs r ≡ Ok arcs → r ≡ Ok arcs
    by (Ok a) g = let same : a ≡ arcs = cc g in rw same refl
    by (Err x) g = absurd (cc g)

key_below : (bound : ℕ) → 19200300 < bound → (key arcs : List ℕ) → key_arcs bound key ≡ Ok arcs → ArcsBelow bound arcs
key_below bound lt key arcs e = by (type_named key) refl e
  where
    by : (o : Option Named) → type_named key ≡ o → arcs_or bound o key ≡ Ok arcs → ArcsBelow bound arcs
    by (Some t) f g = let same : t.arcs ≡ arcs = cc g in subst (ArcsBelow bound) same (type_below bound lt key t f)
    by None f g = all_below bound arcs (omega (arith, lt)) (text_sound bound 39 key arcs (dotted bound key arcs g)).1

-- The arcs of an OID under one bound are an OID under another if they are below it.

within : (one other : ℕ) (arcs : List ℕ) → IsIdentifier one arcs → ArcsBelow other arcs → IsIdentifier other arcs
unfolding IsIdentifier
within one other (a ∷ b ∷ arcs) id all = (id.0, id.1, all.1.1)
within one other arcs id all = absurd id

key_again : (one other : ℕ) → 40 ≤ other → (key arcs : List ℕ) → key_arcs one key ≡ Ok arcs → ArcsBelow other arcs → key_arcs other key ≡ Ok arcs
key_again one other root key arcs e all = by (type_named key) e
  where
    by : (o : Option Named) → arcs_or one o key ≡ Ok arcs → arcs_or other o key ≡ Ok arcs
    by (Some t) g = g
    by None g =
        let sound = text_sound one 39 key arcs (dotted one key arcs g) in
        ap dotted_arcs (text_read other 39 key arcs root sound.0 (within one other arcs sound.1 all) sound.2)

all_moved : {A : Type 0} (P : A → Type 0) (xs ys : List A) → IsPermutation xs ys → AllByRecursion P xs → AllByRecursion P ys
all_moved P xs ys moved all = recursion_from_All P ys (All-permutation P xs ys moved (All-from_recursion P xs all))

-- A property of each parsed value, and parsing it under another bound.

module _ {A E : Type 0} (separator : ℕ) (reads : List ℕ → Result A E → Type 0) (P : A → Type 0) where
  abbrev Have : Result (List A) E → Type 0
  Have (Ok xs) = AllByRecursion P xs
  Have (Err e) = ⊤

  have_more : (a : A) (r : Result (List A) E) → P a → Have r → Have (in_front_of a r)
  have_more a (Ok xs) p h = (p, h)
  have_more a (Err e) p h = tt

  have : ((w : List ℕ) (a : A) → reads w (Ok a) → P a) → {text : List ℕ} {r : Result (List A) E} → ReadsPieces separator reads text r → Have r
  have each (ReadsPieces.last text p a f h) = (each p a h, tt)
  have each (ReadsPieces.more text p rest a r f h n) = have_more a r (each p a h) (have each n)
  have each (ReadsPieces.refused text p left e f h) = tt

  module _ (again : List ℕ → Result A E → Type 0) (each : (w : List ℕ) (a : A) → reads w (Ok a) → P a → again w (Ok a)) where
    abbrev Again : List ℕ → Result (List A) E → Type 0
    Again text (Ok xs) = AllByRecursion P xs → ReadsPieces separator again text (Ok xs)
    Again text (Err e) = ⊤

    again_more : (text p rest : List ℕ) (a : A) (r : Result (List A) E) → IsFirstPiece separator text p (Some rest) → reads p (Ok a) → Again rest r → Again text (in_front_of a r)
    again_more text p rest a (Ok xs) f h n = λ all. ReadsPieces.more text p rest a (Ok xs) f (each p a h all.0) (n all.1)
    again_more text p rest a (Err e) f h n = tt

    read_again : {text : List ℕ} {r : Result (List A) E} → ReadsPieces separator reads text r → Again text r
    read_again (ReadsPieces.last text p a f h) = λ all. ReadsPieces.last text p a f (each p a h all.0)
    read_again (ReadsPieces.more text p rest a r f h n) = again_more text p rest a r f h (read_again n)
    read_again (ReadsPieces.refused text p left e f h) = tt

-- The arcs of an attribute's type, and of each attribute's type, are below a bound.
abbrev IsLow : ℕ → AttributeTypeAndValue → Type 0
IsLow bound a = ArcsBelow bound a.oid

abbrev AreLow : ℕ → List AttributeTypeAndValue → Type 0
AreLow bound r = AllByRecursion (IsLow bound) r

-- The arcs of a parsed name are below the bound, if those of all types that have a name are.

low_attribute : (bound : ℕ) → 19200300 < bound → (w : List ℕ) (a : AttributeTypeAndValue) → ReadsAttribute bound w (Ok a) → IsLow bound a
low_attribute bound lt w a (ReadsAttribute.member key rest a1 e f v) = key_below bound lt key a.oid f

low_relative : (bound : ℕ) → 19200300 < bound → (w : List ℕ) (r : List AttributeTypeAndValue) → ReadsRelative bound w (Ok r) → AreLow bound r
low_relative bound lt w r (ReadsRelative.set members r1 h moved ascend distinct valid) =
    all_moved (IsLow bound) members r moved (have 43 (ReadsAttribute bound) (IsLow bound) (low_attribute bound lt) h)

low_name : (bound : ℕ) → 19200300 < bound → (text : List ℕ) (n : List (List AttributeTypeAndValue)) → ReadsName bound text (Ok n) → AllByRecursion (AreLow bound) n
low_name bound lt text n (ReadsName.empty e) = tt
low_name bound lt text n (ReadsName.pieces rs some h) =
    all_moved (AreLow bound) rs (reverse rs) (IsPermutation-reverse rs) (have 44 (ReadsRelative bound) (AreLow bound) (low_relative bound lt) h)

-- The encodings of attributes.

pair_bounds : (bound : ℕ) (a : TypeAndValue) → (IsValid (type_and_value bound) a ↔ IsValidUnder bound (type_and_value 0) a) × (octets_of (type_and_value bound) a ≡ octets_of (type_and_value 0) a)
unfolding IsValid IsValidUnder octets_of
pair_bounds bound a = ((λ h. h, λ h. h), refl)

abbrev pairs : Family (type_and_value 0) type_and_value
pairs = record {
  at = λ b a. a;
  judged = λ b a. (pair_bounds b a).0;
  spelled = λ b a. (pair_bounds b a).1;
  element = λ b. refl;
  apart = λ b. refl;
  enough = λ b. refl;
}

pair_moves : (least one other : ℕ) → least ≤ one → (a : AttributeTypeAndValue) → IsLow least a → IsValid (type_and_value other) (pair_plain a) → IsValid (type_and_value one) (pair_plain a)
unfolding identifiers_of
pair_moves least one other le a low v = valid_narrow (type_and_value 0) type_and_value pairs one other (pair_plain a) v (below_wider least one le a.oid low, tt)

all_move : (least one other : ℕ) → least ≤ one → (r : List AttributeTypeAndValue) → AreLow least r → AllValid (type_and_value other) pair_plain r → AllValid (type_and_value one) pair_plain r
all_move least one other le [] low v = tt
all_move least one other le (a ∷ r) low v = (pair_moves least one other le a low.0 v.0, all_move least one other le r low.1 v.1)

-- A text that parses under one bound parses under another if the arcs are below both.

module _ (least one other : ℕ) (root : 40 ≤ least) (first : least ≤ one) (second : least ≤ other) where
  attribute_again : (w : List ℕ) (a : AttributeTypeAndValue) → ReadsAttribute one w (Ok a) → IsLow least a → ReadsAttribute other w (Ok a)
  attribute_again w a (ReadsAttribute.member key rest a1 e f v) low =
      ReadsAttribute.member key rest a e (key_again one other (omega (arith, root, second)) key a.oid f (below_wider least other second a.oid low)) v

  not_above_again : (x y : AttributeTypeAndValue) → IsLow least x → IsLow least y → NotAbove (type_and_value one) pair_plain x y → NotAbove (type_and_value other) pair_plain x y
  unfolding octets_of
  not_above_again x y p q h = λ v w. h (pair_moves least one other first x p v) (pair_moves least one other first y q w)

  ascends_again : (r : List AttributeTypeAndValue) → AreLow least r → Ascends (type_and_value one) pair_plain r → Ascends (type_and_value other) pair_plain r
  ascends_again [] low h = tt
  ascends_again (x ∷ []) low h = tt
  ascends_again (x ∷ y ∷ r) low h = (not_above_again x y low.0 low.1.0 h.0, ascends_again (y ∷ r) low.1 h.1)

  relative_again : (w : List ℕ) (r : List AttributeTypeAndValue) → ReadsRelative one w (Ok r) → AreLow least r → ReadsRelative other w (Ok r)
  relative_again w r (ReadsRelative.set members r1 h moved ascend distinct valid) low =
      let back = all_moved (IsLow least) r members (IsPermutation-sym members r moved) low in
      ReadsRelative.set members r (read_again 43 (ReadsAttribute one) (IsLow least) (ReadsAttribute other) attribute_again h back) moved (ascends_again r low ascend) distinct
      (all_move least other one second r low valid)

  name_again : (text : List ℕ) (n : List (List AttributeTypeAndValue)) → ReadsName one text (Ok n) → AllByRecursion (AreLow least) n → ReadsName other text (Ok n)
  name_again text n (ReadsName.empty e) low = ReadsName.empty e
  name_again text n (ReadsName.pieces rs some h) low =
      let back = all_moved (AreLow least) (reverse rs) rs (IsPermutation-sym rs (reverse rs) (IsPermutation-reverse rs)) low in
      ReadsName.pieces rs some (read_again 44 (ReadsRelative one) (AreLow least) (ReadsRelative other) relative_again h back)

-- The types of the attributes in a name.

abbrev types_of : PlainName → List (List ℕ)
types_of n = map type_of (all_of n)

low_members : (bound : ℕ) (r : List AttributeTypeAndValue) (rest : List TypeAndValue) → AreBelow bound (map type_of (relative_plain r ++ rest)) ↔ (AreLow bound r × AreBelow bound (map type_of rest))
low_members bound [] rest = (λ h. (tt, h), λ p. p.1)
low_members bound (a ∷ r) rest =
    let more = low_members bound r rest in
    (λ h. let p = more.0 h.1 in ((h.0, p.0), p.1), λ p. (p.0.0, more.1 (p.0.1, p.1)))

low_types : (bound : ℕ) (n : List (List AttributeTypeAndValue)) → AreBelow bound (types_of (plain_list relative_plain n)) ↔ AllByRecursion (AreLow bound) n
low_types bound [] = (λ h. tt, λ h. tt)
low_types bound (r ∷ n) =
    let parts = low_members bound r (all_of (plain_list relative_plain n)) in
    let more = low_types bound n in
    (λ h. let p = parts.0 h in (p.0, more.0 p.1), λ p. parts.1 (p.0, more.1 p.1))

spelled_below : (bound : ℕ) (text : List ℕ) (n : PlainName) → 19200300 < bound → SpellsName bound text n → AreBelow bound (types_of n)
spelled_below bound text n lt h =
    let P : PlainName → Type 0 = λ m. AreBelow bound (types_of m) in
    subst P (sym h.2) ((low_types bound h.0).1 (low_name bound lt text h.0 h.1))

spelled_again : (least one other : ℕ) → 40 ≤ least → least ≤ one → least ≤ other → (text : List ℕ) (n : PlainName) → SpellsName one text n → AreBelow least (types_of n) → SpellsName other text n
spelled_again least one other root first second text n h below =
    let P : PlainName → Type 0 = λ m. AreBelow least (types_of m) in
    (h.0, name_again least one other root first second text h.0 h.1 ((low_types least h.0).0 (subst P h.2 below)), h.2)

pub spelled_wider : (small large : ℕ) (text : List ℕ) (n : PlainName) → 19200300 < small → small ≤ large → SpellsName small text n → SpellsName large text n
spelled_wider small large text n lt le h = spelled_again small small large (omega (arith, lt)) (omega arith) le text n h (spelled_below small text n lt h)

pub spelled_exactly : (small large : ℕ) (text : List ℕ) (n : PlainName) → 19200300 < small → small ≤ large → SpellsName small text n ↔ (SpellsName large text n × AreBelow small (types_of n))
spelled_exactly small large text n lt le =
    (λ h. (spelled_wider small large text n lt le h, spelled_below small text n lt h), λ p. spelled_again small large small (omega (arith, lt)) le (omega arith) text n p.0 p.1)

pub spelled_new : (small large : ℕ) (text : List ℕ) (n : PlainName) → 40 ≤ small → small ≤ large → SpellsName large text n → (SpellsName small text n → ⊥) → HoldsLarge small (types_of n)
spelled_new small large text n root le h none =
    elim (below_or_large small (types_of n)) [ inl below ↦ absurd (none (spelled_again small large small root le (omega arith) text n h below)) | inr holds ↦ holds ]

pub spelled_valid : (small large : ℕ) (text : List ℕ) (n : PlainName) → 19200300 < small → small ≤ large → SpellsName small text n → (IsValid (name small) n ↔ IsValid (name large) n)
spelled_valid small large text n lt le h = names_alike small large n le (spelled_below small text n lt h)
