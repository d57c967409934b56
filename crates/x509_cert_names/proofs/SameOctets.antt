-- Lemmas for `Name::has_octets_of`: names are equal, attribute by attribute, exactly if their
-- abstract values are, and these exactly if their encodings are.
use Rattle.std.proofs.Common.{◌≡◌, List, [], ◌∷◌, true, refl, ap, subst, ℕ, false, ◌∙◌, Less, Equal, ◌≢◌, ◌<◌, get_or, Ok, Err, length, ◌++◌, sym, arith, length-append, flat_map, Ordering, Greater}
use Rattle.std.specs.Cmp.Lexicographic.{pointwise, bytes_decides, nat_list_cmp_total}
use Rattle.der_core.specs.Oid.Bound.{Bound}
use Rattle.der_core.proofs.ValueEquality.{Alike, AlikeWithin, exact, leaves, behind, first, last, list, next, second, set}
use Rattle.der_core.specs.Grammar.{plain_list}
use Rattle.der_core.specs.Shapes.{AnyValue, any, rising, AllRising, octets_of, contents, body_octets, IsValid, IsContent, IsBody}
use Rattle.der_types.proofs.AnyLaws.{same_values, values}
use Rattle.x509_cert_names.specs.DirectoryStrings.{directory_plain}
use Rattle.x509_cert_names.specs.Names.{attribute, directory_string, type_and_value, relative_name, name, TypeAndValue, PlainName, name_octets}
use Rattle.x509_cert_names.specs.Pairs.{pair_plain, relative_plain, same_pair, same_pair_equiv}
use Rattle.x509_cert_names.specs.Views.{attribute_plain}
use Rattle.x509_cert_names.specs.contracts.attribute.AttributePartialEq.TheImpl.{eq-value as same_attribute}
use Rattle.x509_cert_names.specs.contracts.directory_string.DirectoryStringPartialEq.TheImpl.{eq-value as same_directory}
use Rattle.x509_cert_names.specs.declared.attribute.Attribute.{Attribute}
use Rattle.x509_cert_names.specs.declared.attribute_type_and_value.AttributeTypeAndValue.{AttributeTypeAndValue}
use Rattle.x509_cert_names.specs.declared.directory_string.DirectoryString.{DirectoryString}
use Rattle.x509_cert_names.specs.declared.directory_string.DirectoryString.TheVariants as strings
use Rattle.std.specs.List.{AllByRecursion, IsDistinct, list_any, insert}
use Rattle.std.proofs.lemmas.Bool.{false_from_ne_true, or_parts}
use Rattle.std.proofs.lemmas.List.Sorted.{IsPermutation-insert}
use Rattle.std.proofs.lemmas.Map.Keys.{IsDistinct-cons, IsDistinct-IsPermutation, IsDistinct-head, IsDistinct-tail}
use Rattle.der_core.specs.Orders.{octets_cmp}
use Rattle.der_core.proofs.OrderLaws.{octets_cmp-self, octets_cmp-equal}
use Rattle.der_core.proofs.Sizes.{size_only}
use Rattle.der_core.specs.Writing.{size}
use Rattle.der_core.specs.ErrorTypes.Error.{Error}
use Rattle.der_core.proofs.Written.{counts_octets, sized}
use Rattle.der_types.proofs.SetSteps.{valid_at}
use Rattle.der_core.specs.Heads.{Fits}
use Rattle.der_core.specs.Ranges.{IsInRange}
use Rattle.der_core.specs.TagTypes.Tag.TheVariants as tags
use Rattle.der_core.proofs.OneEncoding.{one_value}
use Rattle.der_core.proofs.HeadLaws.{fits_contents}
use Rattle.der_core.specs.Placed.{AllValid}
use Rattle.der_types.specs.Sets.{Ascends, TooLong}
use Rattle.x509_cert_names.specs.Ordered.{DifferInTurn, IsOrdered}

-- `==` of attributes and names compares their abstract values: OIDs by their content, values by tag
-- and content.

pub pairs : (a b : AttributeTypeAndValue) → Alike (type_and_value Bound) (same_pair a b) (pair_plain a) (pair_plain b)
pairs a b = behind (next leaves (last (values a.value b.value)))

pub names : (xs ys : List (List AttributeTypeAndValue)) → Alike (name Bound) (pointwise (pointwise same_pair) xs ys) (plain_list relative_plain xs) (plain_list relative_plain ys)
names xs ys = behind (list {s = relative_name Bound} (λ r q. behind (set pairs r q)) xs ys)

-- The values of an attribute are their own abstract values.
itself_listed : (xs : List AnyValue) → plain_list (λ v. v) xs ≡ xs
itself_listed [] = refl
itself_listed (x ∷ xs) = ap (λ r. x ∷ r) (itself_listed xs)

pub attributes : (x y : Attribute) → Alike (attribute Bound) (same_attribute.it x y) (attribute_plain x) (attribute_plain y)
attributes x y =
    let both = λ (f : List AnyValue → List AnyValue). AlikeWithin (rising any) (pointwise same_values x.values.values.items y.values.values.items) (f x.values.values.items) (f y.values.values.items) in
    behind (next leaves (last (behind (subst both (λ i l. itself_listed l i) (set values x.values.values.items y.values.values.items)))))

pub directories : (x y : DirectoryString) → Alike directory_string (same_directory.it x y) (directory_plain x) (directory_plain y)
directories (strings.PrintableString v) (strings.PrintableString w) = first leaves
directories (strings.TeletexString v) (strings.TeletexString w) = second (first leaves)
directories (strings.Utf8String v) (strings.Utf8String w) = second (second (first leaves))
directories (strings.BmpString v) (strings.BmpString w) = second (second (second (exact (bytes_decides v w).0 (bytes_decides v w).1)))
directories x y = exact (λ e. absurd cc) (λ e. absurd cc)

-- Names are equal, attribute by attribute, exactly if they have the same encoding.

-- Attributes whose encodings ascend are distinct, and stay distinct when another is inserted.

-- The encoding of an attribute.
abbrev pub encoded : AttributeTypeAndValue → List ℕ
encoded a = octets_of (type_and_value Bound) (pair_plain a)

apart : (a b : AttributeTypeAndValue) → octets_cmp (encoded a) (encoded b) ≡ Less → same_pair a b ≡ false
apart a b h =
    false_from_ne_true (same_pair a b) (λ e.
    let equal : octets_cmp (encoded a) (encoded b) ≡ Equal = subst (λ w. octets_cmp (encoded a) w ≡ Equal) ((pairs a b).encoding e) (octets_cmp-self (encoded a)) in
    absurd cc)

-- The second attribute of an ascending list can be left out.
skip : (a b : AttributeTypeAndValue) (xs : List AttributeTypeAndValue) → AllRising (octets_of (type_and_value Bound)) (plain_list pair_plain (a ∷ b ∷ xs))
    → AllRising (octets_of (type_and_value Bound)) (plain_list pair_plain (a ∷ xs))
skip a b [] h = tt
skip a b (x ∷ xs) h = (nat_list_cmp_total.trans (encoded a) (encoded b) (encoded x) h.0 h.1.0, h.1.1)

above : (a : AttributeTypeAndValue) (xs : List AttributeTypeAndValue) → AllRising (octets_of (type_and_value Bound)) (plain_list pair_plain (a ∷ xs)) → AllByRecursion (λ b. same_pair a b ≡ false) xs
above a [] h = tt
above a (b ∷ xs) h = (apart a b h.0, above a xs (skip a b xs h))

others_rise : (a : AttributeTypeAndValue) (xs : List AttributeTypeAndValue) → AllRising (octets_of (type_and_value Bound)) (plain_list pair_plain (a ∷ xs)) → AllRising (octets_of (type_and_value Bound)) (plain_list pair_plain xs)
others_rise a [] h = tt
others_rise a (b ∷ xs) h = h.1

pub rising_distinct : (xs : List AttributeTypeAndValue) → AllRising (octets_of (type_and_value Bound)) (plain_list pair_plain xs) → IsDistinct same_pair xs
unfolding IsDistinct
rising_distinct [] h = tt
rising_distinct (a ∷ xs) h = (above a xs h, rising_distinct xs (others_rise a xs h))

pub none_distinct : IsDistinct same_pair []
unfolding IsDistinct
none_distinct = tt

-- The attribute isn't in the list.
pub is_none : (a : AttributeTypeAndValue) (xs : List AttributeTypeAndValue) → list_any (λ b. same_pair b a) xs ≡ false → AllByRecursion (λ b. same_pair a b ≡ false) xs
is_none a [] e = tt
is_none a (b ∷ xs) e =
    let parts = or_parts (same_pair b a) (list_any (λ b. same_pair b a) xs) e in
    (same_pair_equiv.symm a b ∙ parts.0, is_none a xs parts.1)

pub distinct_insert : (xs : List AttributeTypeAndValue) (i : ℕ) (a : AttributeTypeAndValue) → IsDistinct same_pair xs → list_any (λ b. same_pair b a) xs ≡ false → IsDistinct same_pair (insert xs i a)
distinct_insert xs i a d e =
    IsDistinct-IsPermutation same_pair same_pair_equiv.symm (a ∷ xs) (insert xs i a) (IsPermutation-insert xs i a) (IsDistinct-cons same_pair a xs (is_none a xs e) d)

abbrev Pairs : Type 0
Pairs = List AttributeTypeAndValue

abbrev all_encoded : Pairs → List ℕ
all_encoded r = flat_map (λ x. octets_of (type_and_value Bound) x) (relative_plain r)

abbrev set_encoded : Pairs → List ℕ
set_encoded r = octets_of (relative_name Bound) (relative_plain r)

abbrev sets_encoded : List Pairs → List ℕ
sets_encoded n = flat_map (λ x. octets_of (relative_name Bound) x) (plain_list relative_plain n)

-- A value that is in range and in order has an encoding if its length fits 32 bits.

first_shorter : (a b : List ℕ) → Fits (a ++ b) → Fits a
first_shorter a b h = omega (arith, h, length-append a b)

second_shorter : (a b : List ℕ) → Fits (a ++ b) → Fits b
second_shorter a b h = omega (arith, h, length-append a b)

pair_valid : (x : TypeAndValue) → IsInRange (type_and_value Bound) x → Fits (octets_of (type_and_value Bound) x) → IsValid (type_and_value Bound) x
unfolding IsValid IsContent IsBody octets_of contents body_octets
pair_valid x h f =
    let inside = fits_contents _ _ f in
    let kind = first_shorter _ _ inside in
    let value = first_shorter _ _ (second_shorter _ _ inside) in
    (((h.0.0.0, h.0.0.1, kind), ((h.0.1.0.0, h.0.1.0.1, value), tt)), h.1, f)

all_valid : (r : Pairs) → AllByRecursion (λ x. IsInRange (type_and_value Bound) x) (relative_plain r) → Fits (all_encoded r) → AllByRecursion (λ x. IsValid (type_and_value Bound) x) (relative_plain r)
all_valid [] h f = tt
all_valid (a ∷ r) h f = (pair_valid (pair_plain a) h.0 (first_shorter (encoded a) (all_encoded r) f), all_valid r h.1 (second_shorter (encoded a) (all_encoded r) f))

below : (o : Ordering) → o ≢ Greater → (o ≡ Equal → ⊥) → o ≡ Less
below Less g e = refl
below Equal g e = absurd (e refl)
below Greater g e = absurd (g refl)

pub distinct_differ : (r : Pairs) → IsDistinct same_pair r → DifferInTurn r
distinct_differ [] d = tt
distinct_differ (a ∷ []) d = tt
distinct_differ (a ∷ b ∷ r) d = ((IsDistinct-head same_pair a (b ∷ r) d).0, distinct_differ (b ∷ r) (IsDistinct-tail same_pair a (b ∷ r) d))

all_rise : (r : Pairs) → DifferInTurn r → Ascends (type_and_value Bound) pair_plain r → AllByRecursion (λ x. IsValid (type_and_value Bound) x) (relative_plain r)
    → AllRising (λ x. octets_of (type_and_value Bound) x) (relative_plain r)
all_rise [] d s v = tt
all_rise (a ∷ []) d s v = tt
all_rise (a ∷ b ∷ r) d s v =
    let apart : same_pair a b ≡ false = d.0 in
    let equal : octets_cmp (encoded a) (encoded b) ≡ Equal → ⊥ = λ e.
    let one = (one_value (type_and_value Bound) (pair_plain a) (pair_plain b) [] [] refl refl v.0 v.1.0
    (ap (λ (w : List ℕ). w ++ []) (octets_cmp-equal (encoded a) (encoded b) e))).0 in
    let same : same_pair a b ≡ true = (pairs a b).itself one in
    absurd cc in
    (below (octets_cmp (encoded a) (encoded b)) (s.0 v.0 v.1.0) equal, all_rise (b ∷ r) d.1 s.1 v.1)

-- An attribute has an encoding exactly if the length of its bytes fits 32 bits.
pub sized_valid : (a : AttributeTypeAndValue) (n : ℕ) → IsInRange (type_and_value Bound) (pair_plain a) → size (type_and_value Bound) (pair_plain a) ≡ Ok n → IsValid (type_and_value Bound) (pair_plain a)
sized_valid a n h e = pair_valid (pair_plain a) h (counts_octets (type_and_value Bound) (pair_plain a) n e).1

pub unsized_long : (xs : List AttributeTypeAndValue) (i : ℕ) (a : AttributeTypeAndValue) (e : Error) → i < length xs → a ≡ get_or xs i a
    → size (type_and_value Bound) (pair_plain a) ≡ Err e.kind → TooLong (type_and_value Bound) pair_plain xs e
unsized_long xs i a e lt is long = record {
  kind = size_only (type_and_value Bound) (pair_plain a) e.kind long;
  some = λ all. absurd (cc (sized (type_and_value Bound) (pair_plain a) (valid_at (type_and_value Bound) pair_plain xs i a lt is all), long));
}

-- Attributes that ascend and of which each differs from the next are distinct, if each has an
-- encoding.
each_valid : (r : Pairs) → AllValid (type_and_value Bound) pair_plain r → AllByRecursion (λ x. IsValid (type_and_value Bound) x) (relative_plain r)
each_valid [] v = tt
each_valid (a ∷ r) v = (v.0, each_valid r v.1)

pub differ_distinct : (r : Pairs) → AllValid (type_and_value Bound) pair_plain r → Ascends (type_and_value Bound) pair_plain r → DifferInTurn r → IsDistinct same_pair r
differ_distinct r v s d = rising_distinct r (all_rise r d s (each_valid r v))

set_valid : (r : Pairs) → IsInRange (relative_name Bound) (relative_plain r) → IsOrdered Bound r → Fits (set_encoded r) → IsValid (relative_name Bound) (relative_plain r)
unfolding IsValid IsContent IsBody octets_of contents body_octets
set_valid r h o f =
    let each = all_valid r h.0 (fits_contents tags.Set (all_encoded r) f) in
    ((each, all_rise r (distinct_differ r o.0) o.1 each), h.1, f)

sets_valid : (n : List Pairs) → AllByRecursion (λ x. IsInRange (relative_name Bound) x) (plain_list relative_plain n) → AllByRecursion (IsOrdered Bound) n → Fits (sets_encoded n)
    → AllByRecursion (λ x. IsValid (relative_name Bound) x) (plain_list relative_plain n)
sets_valid [] h o f = tt
sets_valid (r ∷ n) h o f =
    (set_valid r h.0 o.0 (first_shorter (set_encoded r) (sets_encoded n) f), sets_valid n h.1 o.1 (second_shorter (set_encoded r) (sets_encoded n) f))

pub name_valid : (n : List Pairs) → IsInRange (name Bound) (plain_list relative_plain n) → AllByRecursion (IsOrdered Bound) n → Fits (name_octets Bound (plain_list relative_plain n))
    → IsValid (name Bound) (plain_list relative_plain n)
unfolding IsValid IsContent IsBody octets_of contents body_octets
name_valid n h o f = (sets_valid n h.0 o (fits_contents tags.Sequence (sets_encoded n) f), h.1, f)

fits_of : (x : PlainName) → IsValid (name Bound) x → Fits (name_octets Bound x)
unfolding IsValid octets_of
fits_of x v = v.2

-- So different names have different encodings. `k` is the borrowed second name.
pub names_apart : (m n k : List Pairs) → plain_list relative_plain k ≡ plain_list relative_plain n
    → IsValid (name Bound) (plain_list relative_plain m) → IsInRange (name Bound) (plain_list relative_plain n) → AllByRecursion (IsOrdered Bound) k
    → name_octets Bound (plain_list relative_plain m) ≡ name_octets Bound (plain_list relative_plain n) → pointwise (pointwise same_pair) m n ≡ true
names_apart m n k s v h o e =
    let fits = subst Fits (e ∙ ap (name_octets Bound) (sym s)) (fits_of (plain_list relative_plain m) v) in
    let valid = subst (IsValid (name Bound)) s (name_valid k (subst (IsInRange (name Bound)) (sym s) h) o fits) in
    (names m n).itself (one_value (name Bound) (plain_list relative_plain m) (plain_list relative_plain n) [] [] refl refl v valid (ap (λ (w : List ℕ). w ++ []) e)).0
