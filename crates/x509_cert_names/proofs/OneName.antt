-- Lemmas for `texts_are_read_as_one_name`: a text parses to at most one name and isn't rejected
-- then. Each RDN of such a name has an attribute.
use Rattle.std.proofs.Common.{◌≡◌, ℕ, ◌<◌, List, [], ◌∷◌, ◌++◌, length, reverse, Result, Ok, Err, refl, sym, ap, ◌∙◌, subst, arith, inl, inr, IfOk, IsPermutation, ◌≤◌, take, get_or, Option, Some, None, ◌⊎◌, length-append, append-nil, map, unwrap_or}
use Rattle.std.specs.List.{AllByRecursion, IsDistinct}
use Rattle.std.proofs.lemmas.List.{reverse-append}
use Rattle.std.proofs.lemmas.List.Sorted.{IsPermutation-sym, IsPermutation-trans, length_permutation}
use Rattle.std.proofs.lemmas.Map.Keys.{IsDistinct-IsPermutation}
use Rattle.der_core.specs.Oid.Bound.{Bound}
use Rattle.der_core.specs.ErrorTypes.ErrorKind.{ErrorKind}
use Rattle.der_core.specs.Grammar.{plain_list}
use Rattle.der_core.specs.Octets.{◌>>=◌}
use Rattle.der_core.specs.Shapes.{AnyValue, IsValid}
use Rattle.der_core.proofs.Results.{plain-append, plain_permutation}
use Rattle.der_core.specs.Placed.{AllValid}
use Rattle.der_types.proofs.Arranged.{valid_moved}
use Rattle.der_types.proofs.AscendingSteps.{ascends-plain, one_set}
use Rattle.x509_cert_name_texts.specs.Escapes.{ReadsOctets}
use Rattle.x509_cert_name_texts.specs.Pieces.{ReadsPieces, Counts, HasNone, IsFirstPiece, in_front_of}
use Rattle.x509_cert_names.specs.declared.attribute_type_and_value.AttributeTypeAndValue.{AttributeTypeAndValue}
use Rattle.x509_cert_names.specs.Names.{PlainName, type_and_value}
use Rattle.x509_cert_names.specs.NameTexts.{ReadsAttribute, ReadsName, ReadsRelative, name_printed}
use Rattle.x509_cert_names.specs.Pairs.{pair_plain, relative_plain, same_pair, same_pair_equiv}
use Rattle.x509_cert_names.specs.PlainTexts.{SpellsName, attribute_of, name_text}
use Rattle.x509_cert_names.specs.ValueTexts.{ReadsValue, encoded_value, of_content, tag_for}
use Rattle.x509_cert_name_texts.proofs.EscapeSteps.{stands_for_one}
use Rattle.x509_cert_names.proofs.Lists.{all_turned}
use Rattle.std.specs.Prelude.{⊤}
use Rattle.std.proofs.lemmas.Bool.{cases_lt}
use Rattle.der_core.proofs.DigitLaws.{split-same_length}

-- A text has one list of pieces.
inside : (p r q w : List ℕ) (separator : ℕ) → p ++ (separator ∷ r) ≡ q ++ w → length p < length q → (get_or q (length p) 0 ≡ separator) × (take (length p) q ≡ p)
inside [] r [] w separator e lt = absurd (omega (arith, lt))
inside [] r (c ∷ q) w separator e lt = ((cc), refl)
inside (a ∷ p) r [] w separator e lt = absurd (omega (arith, lt))
inside (a ∷ p) r (c ∷ q) w separator e lt =
    let rest : p ++ (separator ∷ r) ≡ q ++ w = cc in
    let first : c ≡ a = cc in
    let i = inside p r q w separator rest (omega (arith, lt)) in
    (i.0, rw (first, i.1) refl)

-- A piece without separators isn't longer than one that a separator ends.
no_longer : (p r q w : List ℕ) (separator : ℕ) → p ++ (separator ∷ r) ≡ q ++ w → Counts p → HasNone separator q → length q ≤ length p
no_longer p r q w separator e counts none = elim (cases_lt (length p) (length q)) [ inl lt ↦ late lt | inr le ↦ le ]
  where
    late : length p < length q → length q ≤ length p
    late lt =
        let i = inside p r q w separator e lt in
        let P : List ℕ → Type 0 = Counts in
        absurd (none (length p) lt i.0 (subst P (sym i.1) counts))

same_both : (separator : ℕ) (text p q r t : List ℕ) → IsFirstPiece separator text p (Some r) → IsFirstPiece separator text q (Some t) → (p ≡ q) × (r ≡ t)
same_both separator text p q r t f g =
    let e : p ++ (separator ∷ r) ≡ q ++ (separator ∷ t) = sym f.0 ∙ g.0 in
    let one = no_longer p r q (separator ∷ t) separator e f.2 g.1 in
    let other = no_longer q t p (separator ∷ r) separator (sym e) g.2 f.1 in
    let i = split-same_length p q (separator ∷ r) (separator ∷ t) (omega (arith, one, other)) e in
    let rest : r ≡ t = cc i.1 in
    (i.0, rest)

no_end : (separator : ℕ) (text p q r : List ℕ) → IsFirstPiece separator text p (Some r) → IsFirstPiece separator text q None → ⊥
no_end separator text p q r f g =
    let e : p ++ (separator ∷ r) ≡ q ++ [] = sym f.0 ∙ g.0 ∙ sym (append-nil q) in
    let short = no_longer p r q [] separator e f.2 g.1 in
    omega (arith, short, ap length e, length-append p (separator ∷ r), length-append q [])

-- A text has one first piece.
one_first : (separator : ℕ) (text p q : List ℕ) (l m : Option (List ℕ)) → IsFirstPiece separator text p l → IsFirstPiece separator text q m → (p ≡ q) × (l ≡ m)
one_first separator text p q None None f g = (sym f.0 ∙ g.0, refl)
one_first separator text p q None (Some t) f g = absurd (no_end separator text q p t g f)
one_first separator text p q (Some r) None f g = absurd (no_end separator text p q r f g)
one_first separator text p q (Some r) (Some t) f g =
    let i = same_both separator text p q r t f g in
    (i.0, ap (λ (w : List ℕ). Some w) i.1)

module _ {A E : Type 0} (separator : ℕ) (reads : List ℕ → Result A E → Type 0) (Same : A → A → Type 0) (Odd : A → Type 0) where
  -- The values are equal, one by one.
  abbrev pub AllSame : List A → List A → Type 0
  AllSame [] [] = ⊤
  AllSame (x ∷ xs) (y ∷ ys) = Same x y × AllSame xs ys
  AllSame _ _ = ⊥

  abbrev pub AnyOdd : List A → Type 0
  AnyOdd [] = ⊥
  AnyOdd (x ∷ xs) = Odd x ⊎ AnyOdd xs

  -- Parsing a text twice yields the same result, unless a value fits none.
  abbrev pub Agree : Result (List A) E → Result (List A) E → Type 0
  Agree (Ok xs) (Ok ys) = AllSame xs ys
  Agree (Ok xs) (Err e) = AnyOdd xs
  Agree (Err e) r = ⊤

  both : (a b : A) (r s : Result (List A) E) → Same a b → Agree r s → Agree (in_front_of a r) (in_front_of b s)
  both a b (Ok xs) (Ok ys) h k = (h, k)
  both a b (Ok xs) (Err e) h k = inr k
  both a b (Err e) s h k = tt

  odd_first : (a : A) (r : Result (List A) E) (e : E) → Odd a → Agree (in_front_of a r) (Err e)
  odd_first a (Ok xs) e h = inl h
  odd_first a (Err d) e h = tt

  module _ (same : (w : List ℕ) (a b : A) → reads w (Ok a) → reads w (Ok b) → Same a b) (odd : (w : List ℕ) (a : A) (e : E) → reads w (Ok a) → reads w (Err e) → Odd a) where
    again : (p q : List ℕ) (a b : A) → p ≡ q → reads p (Ok a) → reads q (Ok b) → Same a b
    again p q a b e h k = same p a b h (subst (λ w. reads w (Ok b)) (sym e) k)

    odd_again : (p q : List ℕ) (a : A) (d : E) → p ≡ q → reads p (Ok a) → reads q (Err d) → Odd a
    odd_again p q a d e h k = odd p a d h (subst (λ w. reads w (Err d)) (sym e) k)

    pub agree : {text : List ℕ} {r s : Result (List A) E} → ReadsPieces separator reads text r → ReadsPieces separator reads text s → Agree r s
    agree (ReadsPieces.last text p a f h) (ReadsPieces.last text1 q b g k) = (again p q a b (one_first separator text p q None None f g).0 h k, tt)
    agree (ReadsPieces.last text p a f h) (ReadsPieces.more text1 q t b s g k m) = absurd (no_end separator text q p t g f)
    agree (ReadsPieces.last text p a f h) (ReadsPieces.refused text1 q left d g k) = inl (odd_again p q a d (one_first separator text p q None left f g).0 h k)
    agree (ReadsPieces.more text p t a r f h n) (ReadsPieces.last text1 q b g k) = absurd (no_end separator text p q t f g)
    agree (ReadsPieces.more text p t a r f h n) (ReadsPieces.more text1 q u b s g k m) =
        let i = same_both separator text p q t u f g in
        both a b r s (again p q a b i.0 h k) (agree n (subst (λ (w : List ℕ). ReadsPieces separator reads w s) (sym i.1) m))
    agree (ReadsPieces.more text p t a r f h n) (ReadsPieces.refused text1 q left d g k) = odd_first a r d (odd_again p q a d (one_first separator text p q (Some t) left f g).0 h k)
    agree (ReadsPieces.refused text p left d f h) (ReadsPieces.last text1 q b g k) = tt
    agree (ReadsPieces.refused text p left d f h) (ReadsPieces.more text1 q u b s g k m) = tt
    agree (ReadsPieces.refused text p left d f h) (ReadsPieces.refused text1 q left1 d1 g k) = tt

-- A text represents at most one value.

one_octets : (w : List ℕ) (r s : Result (List ℕ) ErrorKind) → ReadsOctets w r → ReadsOctets w s → r ≡ s
one_octets w (Ok x) (Ok y) h k = ap (λ (v : List ℕ). Ok v) (stands_for_one w x y h k)
one_octets w (Ok x) (Err e) h k = absurd (k.1 x h)
one_octets w (Err d) (Ok y) h k = absurd (h.1 y k)
one_octets w (Err d) (Err e) h k = cc (h.0, k.0)

one_value : (arcs w : List ℕ) (r s : Result AnyValue ErrorKind) → ReadsValue arcs w r → ReadsValue arcs w s → r ≡ s
one_value arcs w r s (ReadsValue.hexstring d e f) (ReadsValue.hexstring c g h) = let same : d ≡ c = cc (e, g) in f ∙ ap encoded_value same ∙ sym h
one_value arcs w r s (ReadsValue.hexstring d e f) (ReadsValue.string n h) = absurd (n d e)
one_value arcs w r s (ReadsValue.string n h) (ReadsValue.hexstring d e f) = absurd (n d e)
one_value arcs w r s (ReadsValue.string n h) (ReadsValue.string m k) = h.2 ∙ ap (λ (o : Result (List ℕ) ErrorKind). o >>= of_content (tag_for arcs)) (one_octets w h.0 k.0 h.1 k.1) ∙ sym k.2

value_again : (a b v w : List ℕ) (r s : Result AnyValue ErrorKind) → a ≡ b → v ≡ w → ReadsValue a v r → ReadsValue b w s → r ≡ s
value_again a b v w r s e f h k = one_value a v r s h (subst (λ x. ReadsValue x v s) (sym e) (subst (λ x. ReadsValue b x s) (sym f) k))

one_pair : (o : Option (List ℕ × List ℕ)) (key rest other left : List ℕ) → o ≡ Some (key, rest) → o ≡ Some (other, left) → (key ≡ other) × (rest ≡ left)
one_pair o key rest other left e f =
    let first : Option (List ℕ × List ℕ) → List ℕ = λ p. (unwrap_or p ([], [])).0 in
    let second : Option (List ℕ × List ℕ) → List ℕ = λ p. (unwrap_or p ([], [])).1 in
    (ap first (sym e ∙ f), ap second (sym e ∙ f))

-- A property of all values is a property of all abstract values.
all_plain : {A B : Type 0} (f : A → B) (P : B → Type 0) (xs : List A) → AllByRecursion (λ a. P (f a)) xs → AllByRecursion P (plain_list f xs)
all_plain f P [] h = tt
all_plain f P (x ∷ xs) h = (h.0, all_plain f P xs h.1)

none_odd : {A E : Type 0} (separator : ℕ) (reads : List ℕ → Result A E → Type 0) (Same : A → A → Type 0) (xs : List A) → AnyOdd separator reads Same (λ a. ⊥) xs → ⊥
none_odd separator reads Same [] h = h
none_odd separator reads Same (x ∷ xs) (inl h) = h
none_odd separator reads Same (x ∷ xs) (inr h) = none_odd separator reads Same xs h

-- Reversing a list, and mapping it to abstract values, commute.
turned : {A B : Type 0} (f : A → B) (xs : List A) → plain_list f (reverse xs) ≡ reverse (plain_list f xs)
turned f [] = refl
turned f (x ∷ xs) =
    ap (plain_list f) (reverse-append (x ∷ []) xs) ∙ plain-append f (reverse xs) (x ∷ []) ∙ ap (λ zs. zs ++ f x ∷ []) (turned f xs)
    ∙ sym (reverse-append (f x ∷ []) (plain_list f xs))

abbrev IsOnly : List AttributeTypeAndValue → List AttributeTypeAndValue → Type 0
IsOnly r s = relative_plain r ≡ relative_plain s

module _ (bound : ℕ) where
  same_attribute : (w : List ℕ) (a b : AttributeTypeAndValue) → ReadsAttribute bound w (Ok a) → ReadsAttribute bound w (Ok b) → a ≡ b
  same_attribute w a b (ReadsAttribute.member key rest a1 e f v) (ReadsAttribute.member other left b1 g h u) =
      let p = one_pair _ key rest other left e g in
      let types : a.oid ≡ b.oid = cc (f, h, p.0) in
      let read = value_again a.oid b.oid rest left (Ok a.value) (Ok b.value) types p.1 v u in
      let values : a.value ≡ b.value = cc read in
      λ i. record { oid = types i; value = values i }

  not_both : (w : List ℕ) (a : AttributeTypeAndValue) (k : ErrorKind) → ReadsAttribute bound w (Ok a) → ReadsAttribute bound w (Err k) → ⊥
  not_both w a k (ReadsAttribute.member key rest a1 e f v) (ReadsAttribute.no_equals g) = cc (e, g)
  not_both w a k (ReadsAttribute.member key rest a1 e f v) (ReadsAttribute.no_key other left k1 g h) = let p = one_pair _ key rest other left e g in cc (f, h, p.0)
  not_both w a k (ReadsAttribute.member key rest a1 e f v) (ReadsAttribute.no_value other left arcs k1 g h u) =
      let p = one_pair _ key rest other left e g in
      let types : a.oid ≡ arcs = cc (f, h, p.0) in
      let read = value_again a.oid arcs rest left (Ok a.value) (Err k) types p.1 v u in
      cc read

  all_equal : (xs ys : List AttributeTypeAndValue) → AllSame 43 (ReadsAttribute bound) (λ a b. a ≡ b) (λ a. ⊥) xs ys → xs ≡ ys
  all_equal [] [] h = refl
  all_equal (x ∷ xs) (y ∷ ys) h = let more = all_equal xs ys h.1 in rw (h.0, more) refl
  all_equal xs ys h = absurd h

  one_members : (w : List ℕ) (xs ys : List AttributeTypeAndValue) → ReadsPieces 43 (ReadsAttribute bound) w (Ok xs) → ReadsPieces 43 (ReadsAttribute bound) w (Ok ys) → xs ≡ ys
  one_members w xs ys h k = all_equal xs ys (agree 43 (ReadsAttribute bound) (λ a b. a ≡ b) (λ a. ⊥) same_attribute not_both h k)

  no_fault : (w : List ℕ) (xs : List AttributeTypeAndValue) (e : ErrorKind) → ReadsPieces 43 (ReadsAttribute bound) w (Ok xs) → ReadsPieces 43 (ReadsAttribute bound) w (Err e) → ⊥
  no_fault w xs e h k = none_odd 43 (ReadsAttribute bound) (λ a b. a ≡ b) xs (agree 43 (ReadsAttribute bound) (λ a b. a ≡ b) (λ a. ⊥) same_attribute not_both h k)

  one_relative : (w : List ℕ) (r s : List AttributeTypeAndValue) → ReadsRelative bound w (Ok r) → ReadsRelative bound w (Ok s) → IsOnly r s
  one_relative w r s (ReadsRelative.set xs r1 h p a d v) (ReadsRelative.set ys s1 k q b e u) =
      let there = subst (λ (zs : List AttributeTypeAndValue). IsPermutation zs s) (sym (one_members w xs ys h k)) q in
      let moved = IsPermutation-trans r xs s (IsPermutation-sym xs r p) there in
      one_set (type_and_value bound) (relative_plain r) (relative_plain s) refl refl (all_plain pair_plain (λ x. IsValid (type_and_value bound) x) r v)
      (ascends-plain (type_and_value bound) pair_plain r a) (ascends-plain (type_and_value bound) pair_plain s b) (plain_permutation pair_plain r s moved)

  not_refused : (w : List ℕ) (r : List AttributeTypeAndValue) (e : ErrorKind) → ReadsRelative bound w (Ok r) → ReadsRelative bound w (Err e) → ⊥
  not_refused w r e (ReadsRelative.set xs r1 h p a d v) (ReadsRelative.refused e1 k) = no_fault w xs e h k
  not_refused w r e (ReadsRelative.set xs r1 h p a d v) (ReadsRelative.twice ys k none) =
      let distinct = IsDistinct-IsPermutation same_pair same_pair_equiv.symm r xs (IsPermutation-sym xs r p) d in
      none (subst (λ (zs : List AttributeTypeAndValue). IsDistinct same_pair zs) (one_members w xs ys h k) distinct)
  not_refused w r e (ReadsRelative.set xs r1 h p a d v) (ReadsRelative.too_long ys k none) =
      let there = valid_moved (type_and_value bound) pair_plain r xs (IsPermutation-sym xs r p) v in
      none (subst (λ (zs : List AttributeTypeAndValue). AllValid (type_and_value bound) pair_plain zs) (one_members w xs ys h k) there)

  all_only : (n m : List (List AttributeTypeAndValue)) → AllSame 44 (ReadsRelative bound) IsOnly (λ r. ⊥) n m → plain_list relative_plain n ≡ plain_list relative_plain m
  all_only [] [] h = refl
  all_only (r ∷ n) (s ∷ m) h = let more = all_only n m h.1 in rw (h.0, more) refl
  all_only n m h = absurd h

  one_name : (text : List ℕ) (n m : List (List AttributeTypeAndValue)) → ReadsName bound text (Ok n) → ReadsName bound text (Ok m) → plain_list relative_plain n ≡ plain_list relative_plain m
  one_name text n m (ReadsName.empty e) (ReadsName.empty f) = refl
  one_name text n m (ReadsName.empty e) (ReadsName.pieces s some k) = absurd (some e)
  one_name text n m (ReadsName.pieces r some h) (ReadsName.empty e) = absurd (some e)
  one_name text n m (ReadsName.pieces r some h) (ReadsName.pieces s other k) =
      let same = all_only r s (agree 44 (ReadsRelative bound) IsOnly (λ r. ⊥) one_relative not_refused h k) in
      turned relative_plain r ∙ ap (λ zs. reverse zs) same ∙ sym (turned relative_plain s)

  name_stands : (text : List ℕ) (n : List (List AttributeTypeAndValue)) (e : ErrorKind) → ReadsName bound text (Ok n) → ReadsName bound text (Err e) → ⊥
  name_stands text n e (ReadsName.empty f) (ReadsName.refused d some k) = some f
  name_stands text n e (ReadsName.pieces r some h) (ReadsName.refused d other k) =
      none_odd 44 (ReadsRelative bound) IsOnly r (agree 44 (ReadsRelative bound) IsOnly (λ r. ⊥) one_relative not_refused h k)

pub one_spelled : (bound : ℕ) (text : List ℕ) (n m : PlainName) → SpellsName bound text n → SpellsName bound text m → n ≡ m
one_spelled bound text n m h k = h.2 ∙ one_name bound text h.0 k.0 h.1 k.1 ∙ sym k.2

pub spelled_stands : (bound : ℕ) (text : List ℕ) (n : PlainName) (e : ErrorKind) → SpellsName bound text n → ReadsName bound text (Err e) → ⊥
spelled_stands bound text n e h k = name_stands bound text h.0 e h.1 k

-- Each RDN of a name that a text parses to has an attribute.
abbrev pub HasSome : List AttributeTypeAndValue → Type 0
HasSome r = 0 < length r

some_members : (w : List ℕ) (r : Result (List AttributeTypeAndValue) ErrorKind) → ReadsPieces 43 (ReadsAttribute Bound) w r → IfOk r HasSome
some_members w r (ReadsPieces.last t p a f h) = omega arith
some_members w r (ReadsPieces.more t p rest a (Ok xs) f h others) = omega arith
some_members w r (ReadsPieces.more t p rest a (Err e) f h others) = tt
some_members w r (ReadsPieces.refused t p left e f h) = tt

some_attributes : (w : List ℕ) (r : List AttributeTypeAndValue) → ReadsRelative Bound w (Ok r) → HasSome r
some_attributes w r (ReadsRelative.set members attributes h p a d v) =
    let some = some_members w (Ok members) h in
    omega (arith, some, length_permutation members r p)

all_some : (w : List ℕ) (r : Result (List (List AttributeTypeAndValue)) ErrorKind) → ReadsPieces 44 (ReadsRelative Bound) w r → IfOk r (λ n. AllByRecursion HasSome n)
all_some w r (ReadsPieces.last t p a f h) = (some_attributes p a h, tt)
all_some w r (ReadsPieces.more t p rest a (Ok xs) f h others) = (some_attributes p a h, all_some rest (Ok xs) others)
all_some w r (ReadsPieces.more t p rest a (Err e) f h others) = tt
all_some w r (ReadsPieces.refused t p left e f h) = tt

pub read_some : (w : List ℕ) (n : List (List AttributeTypeAndValue)) → ReadsName Bound w (Ok n) → AllByRecursion HasSome n
read_some w n (ReadsName.empty e) = tt
read_some w n (ReadsName.pieces m some h) = all_turned HasSome m (all_some w (Ok m) h)

-- The printed form of a name is the string form of its abstract value.

attributes_back : (r : List AttributeTypeAndValue) → map attribute_of (relative_plain r) ≡ r
attributes_back [] = refl
attributes_back (a ∷ r) = ap (λ x. a ∷ x) (attributes_back r)

names_back : (n : List (List AttributeTypeAndValue)) → map (map attribute_of) (plain_list relative_plain n) ≡ n
names_back [] = refl
names_back (r ∷ n) = ap (λ x. x ∷ map (map attribute_of) (plain_list relative_plain n)) (attributes_back r) ∙ ap (λ x. r ∷ x) (names_back n)

pub name_text_is : (n : List (List AttributeTypeAndValue)) → name_text (plain_list relative_plain n) ≡ name_printed n
unfolding name_text
name_text_is n = ap name_printed (names_back n)
