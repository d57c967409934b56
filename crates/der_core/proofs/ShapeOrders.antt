-- Lemmas about the order of the encodings of a shape, by its parts, and about their first tags.
use Rattle.std.proofs.Common.{◌≡◌, ℕ, Bool, true, false, List, [], ◌∷◌, ◌++◌, Option, Some, None, refl, sym, ap, subst, ◌∙◌, append_assoc, arith, inl, inr, ◌≢◌, bytes_eq, Less, Equal, Result, Ok, Ordering, IfOk, IfErr, Greater, ◌⊎◌}
use Rattle.std.specs.List.{flat_map}
use Rattle.std.specs.Ordering.{ordering_then, ordering_reverse}
use Rattle.std.specs.Cmp.Lexicographic.{slice_cmp, nat_list_cmp_total}
use Rattle.std.proofs.lemmas.Bool.{and_parts, or_cases, false≢true, or_left, or_right}
use Rattle.std.proofs.lemmas.Bool.Decides.{nat_tests}
use Rattle.der_core_coding.specs.CoreHead.declared.tag.Tag.{Tag}
use Rattle.der_core_coding.specs.CoreHead.Tags.{IsTag, tag_octets}
use Rattle.der_core_coding.specs.CoreHead.Heads.{tlv}
use Rattle.der_core_coding.specs.CoreHead.Shapes.{Shape, Body, tagged, any, either, optional, defaulted, nothing, field, Value, BodyValue, octets_of, contents, body_octets, unless, IsValid, IsBody, begins, Content, ContentValue, AnyValue}
use Rattle.der_core_coding.specs.CoreHead.Spelling.{is_apart, is_body_apart, is_element, is_clear, is_end, none_of, body_begins}
use Rattle.der_core_coding.proofs.CoreHead.TagLaws.{tag_octets-some, same_tag-refl}
use Rattle.der_core_coding.proofs.CoreHead.Complete.{not_begins, end_empty, tlv_first}
use Rattle.der_core.specs.Orders.{octets_cmp, encodings_cmp, bodies_cmp, StartsWith, next_cmp, Overflows}
use Rattle.der_core.proofs.OrderLaws.{then_first, octets_cmp-append, Splits, tag_splits, tag_cmp-equal, tlv_splits, told_as}
use Rattle.der_core_coding.specs.CoreHead.declared.error.Error.{Error}
use Rattle.der_core_coding.specs.CoreHead.Writing.{both_len, size, size_body, default_len}
use Rattle.der_core.proofs.Sizes.{size_only, first_over, second_over, longer}

-- No encoding is a prefix of another

-- The bytes are a header and its content.
pub record IsWhole (b : List ℕ) : Type 0 where
  pub tag : Tag
  pub contents : List ℕ
  pub octets : b ≡ tlv tag contents

tlv_whole : (t : Tag) (c : List ℕ) → IsWhole (tlv t c)
tlv_whole t c = record { tag = t; contents = c; octets = refl }

whole_splits : (a b : List ℕ) → IsWhole a → IsWhole b → Splits a b
whole_splits a b p q = rw (p.octets, q.octets) (tlv_splits p.tag q.tag p.contents q.contents)

element_whole : (s : Shape) (v : Value s) → is_element s ≡ true → IsWhole (octets_of s v)
unfolding octets_of
element_whole (tagged t c) v e = tlv_whole t (contents c v)
element_whole any v e = tlv_whole v.tag v.contents
element_whole (either a b) (inl v) e = element_whole a v (grind (arith, nat_tests))
element_whole (either a b) (inr v) e = element_whole b v (grind (arith, nat_tests))
element_whole s v e = absurd (false≢true e)

pub element_splits : (s : Shape) (v w : Value s) → is_element s ≡ true → Splits (octets_of s v) (octets_of s w)
element_splits s v w e = whole_splits (octets_of s v) (octets_of s w) (element_whole s v e) (element_whole s w e)

-- The encoding of an element isn't empty, whether or not the value is valid.
stands : (s : Shape) (v : Value s) → is_element s ≡ true → (b : ℕ) × (w : List ℕ) × (octets_of s v ≡ b ∷ w)
stands s v e =
    let whole = element_whole s v e in
    let first = tlv_first whole.tag whole.contents in
    let some = tag_octets-some whole.tag in
    (some.0, some.1 ++ first.0, whole.octets ∙ first.1 ∙ ap (λ x. x ++ first.0) some.2)

-- The encoding of a field that isn't empty is a header and its content.
field_whole : (s : Shape) (v : Value s) → is_apart s ≡ true → octets_of s v ≢ [] → IsWhole (octets_of s v)
unfolding octets_of unless
field_whole (optional s) None a some = absurd (some refl)
field_whole (optional s) (Some v) a some = element_whole s v (grind (arith, nat_tests))
field_whole nothing v a some = absurd (some refl)
field_whole (defaulted s d) v a some = go (bytes_eq (octets_of s v) d) some
  where
    go : (b : Bool) → unless b (octets_of s v) ≢ [] → IsWhole (unless b (octets_of s v))
    go true k = absurd (k refl)
    go false k = element_whole s v (grind (arith, nat_tests))
field_whole s v a some = element_whole s v (grind (arith, nat_tests))

-- Bytes that begin with a tag aren't empty.
pub not_nothing : (first : Tag → Bool) (t : Tag) (b : List ℕ) → StartsWith first (Some t) b → b ≢ []
not_nothing first t b h e =
    let some = tag_octets-some t in
    let starts = h.1 in
    absurd cc

pub present_splits : (s : Shape) (v w : Value s) (t u : Tag) → is_apart s ≡ true
    → StartsWith (begins s) (Some t) (octets_of s v) → StartsWith (begins s) (Some u) (octets_of s w) → Splits (octets_of s v) (octets_of s w)
present_splits s v w t u a i j =
    whole_splits (octets_of s v) (octets_of s w) (field_whole s v a (not_nothing (begins s) t (octets_of s v) i)) (field_whole s w a (not_nothing (begins s) u (octets_of s w) j))

-- Rows of fields

-- The first field decides, and then the others.
pub field_cmp : (s : Shape) (b : Body) (v w : Value s × BodyValue b) → Splits (octets_of s v.0) (octets_of s w.0)
    → bodies_cmp (field s b) v w ≡ ordering_then (encodings_cmp s v.0 w.0) (bodies_cmp b v.1 w.1)
unfolding body_octets
field_cmp s b v w h = octets_cmp-append (octets_of s v.0) (octets_of s w.0) (body_octets b v.1) (body_octets b w.1) h

-- A field that may be absent doesn't begin with a tag that may follow it.
other_tag : (s : Shape) (b : Body) (v : Value s) (x : BodyValue b) (t u : Tag) (r : List ℕ) → is_clear s b ≡ true → octets_of s v ≡ []
    → body_octets b x ≡ tag_octets u ++ r → begins s t ≡ true → body_begins b u ≡ true → u ≢ t
other_tag s b v x t u r c absent starts first next same =
    elim (or_cases (is_element s) _ c) [
      | inl e ↦ let some = stands s v e in let there = some.2 in absurd cc
      | inr e ↦ elim (or_cases (is_end b) (none_of s (body_begins b)) e) [
        | inl d ↦ let empty = end_empty b x d in let some = tag_octets-some u in absurd cc
        | inr n ↦ false≢true (sym (not_begins s (body_begins b) t n (subst (λ k. body_begins b k ≡ true) same next)) ∙ first)
      ]
    ]

nothing_first : (t : Tag) (w : List ℕ) → octets_cmp [] (tag_octets t ++ w) ≡ Less
nothing_first t w = rw (tag_octets-some t).2 refl

pub absent_first : (s : Shape) (b : Body) (v w : Value s × BodyValue b) (n : Option Tag) (t : Tag) → is_body_apart (field s b) ≡ true
    → octets_of s v.0 ≡ [] → StartsWith (begins s) (Some t) (octets_of s w.0) → StartsWith (body_begins b) n (body_octets b v.1)
    → bodies_cmp (field s b) v w ≡ next_cmp n t
unfolding body_octets
absent_first s b v w None t a absent i next =
    rw (absent, next, i.1, append_assoc (tag_octets t) i.0 (body_octets b w.1)) (nothing_first t (i.0 ++ body_octets b w.1))
absent_first s b v w (Some u) t a absent i next =
    let c = (and_parts (is_clear s b) _ a).0 in
    let other : octets_cmp (tag_octets u) (tag_octets t) ≢ Equal = λ e.
    other_tag s b v.0 v.1 t u next.0 c absent next.1 i.3 next.3 (tag_cmp-equal u t next.2 i.2 e) in
    rw (absent, next.1, i.1, append_assoc (tag_octets t) i.0 (body_octets b w.1))
    (octets_cmp-append (tag_octets u) (tag_octets t) next.0 (i.0 ++ body_octets b w.1) (tag_splits u t)
    ∙ then_first (octets_cmp (tag_octets u) (tag_octets t)) (octets_cmp next.0 (i.0 ++ body_octets b w.1)) other)

-- Lists of values

pub elements_cmp : (s : Shape) (xs ys : List (Value s)) → is_element s ≡ true
    → octets_cmp (flat_map (octets_of s) xs) (flat_map (octets_of s) ys) ≡ slice_cmp (encodings_cmp s) xs ys
elements_cmp s [] [] e = refl
elements_cmp s [] (y ∷ ys) e = rw (stands s y e).2 refl
elements_cmp s (x ∷ xs) [] e = rw (stands s x e).2 refl
elements_cmp s (x ∷ xs) (y ∷ ys) e =
    octets_cmp-append (octets_of s x) (octets_of s y) (flat_map (octets_of s) xs) (flat_map (octets_of s) ys) (element_splits s x y e)
    ∙ ap (ordering_then (encodings_cmp s x y)) (elements_cmp s xs ys e)

-- The order of rows of fields, and their first tags

field_parts : (s : Shape) (b : Body) → is_body_apart (field s b) ≡ true → (is_apart s ≡ true) × (is_body_apart b ≡ true)
field_parts s b a = grind (arith, nat_tests)

-- The four cases of the first fields

-- The tag that a call returned for a value.
abbrev pub TagIs : (s : Shape) → Value s → Option Tag → Type 0
TagIs s v t = StartsWith (begins s) t (octets_of s v)

abbrev pub FieldsTagIs : (b : Body) → BodyValue b → Option Tag → Type 0
FieldsTagIs b v t = is_body_apart b ≡ true → StartsWith (body_begins b) t (body_octets b v)

-- If both first fields are absent, the others decide.
without_first : (s : Shape) (b : Body) (v w : Value s × BodyValue b) → TagIs s v.0 None → TagIs s w.0 None → bodies_cmp b v.1 w.1 ≡ bodies_cmp (field s b) v w
unfolding body_octets
without_first s b v w i j = rw (i, j) refl

-- If both first fields are there, the others matter only if the first fields have the same
-- encoding.
with_first : (s : Shape) (b : Body) (v w : Value s × BodyValue b) (t u : Tag) → TagIs s v.0 (Some t) → TagIs s w.0 (Some u) → is_body_apart (field s b) ≡ true
    → ordering_then (encodings_cmp s v.0 w.0) (bodies_cmp b v.1 w.1) ≡ bodies_cmp (field s b) v w
with_first s b v w t u i j a = sym (field_cmp s b v w (present_splits s v.0 w.0 t u (field_parts s b a).0 i j))

pub neither_stands : (s : Shape) (b : Body) (v w : Value s × BodyValue b) (r : Result Ordering Error) → TagIs s v.0 None → TagIs s w.0 None
    → (is_body_apart b ≡ true → IsBody b v.1 → IsBody b w.1 → r ≡ Ok (bodies_cmp b v.1 w.1))
    → is_body_apart (field s b) ≡ true → IsBody (field s b) v → IsBody (field s b) w → r ≡ Ok (bodies_cmp (field s b) v w)
unfolding IsBody
neither_stands s b v w r i j h a p q = h (field_parts s b a).1 p.1 q.1 ∙ ap (λ o. Ok o) (without_first s b v w i j)

pub neither_told : (s : Shape) (b : Body) (v w : Value s × BodyValue b) (r : Result Ordering Error) → TagIs s v.0 None → TagIs s w.0 None
    → (is_body_apart b ≡ true → IfOk r (λ o. o ≡ bodies_cmp b v.1 w.1)) → is_body_apart (field s b) ≡ true → IfOk r (λ o. o ≡ bodies_cmp (field s b) v w)
neither_told s b v w r i j h a = told_as r (without_first s b v w i j) (h (field_parts s b a).1)

pub both_stand : (s : Shape) (b : Body) (v w : Value s × BodyValue b) (t u : Tag) (r : Result Ordering Error) → TagIs s v.0 (Some t) → TagIs s w.0 (Some u)
    → (is_apart s ≡ true → is_body_apart b ≡ true → IsValid s v.0 → IsValid s w.0 → IsBody b v.1 → IsBody b w.1 → r ≡ Ok (ordering_then (encodings_cmp s v.0 w.0) (bodies_cmp b v.1 w.1)))
    → is_body_apart (field s b) ≡ true → IsBody (field s b) v → IsBody (field s b) w → r ≡ Ok (bodies_cmp (field s b) v w)
unfolding IsBody
both_stand s b v w t u r i j h a p q =
    let parts = field_parts s b a in
    h parts.0 parts.1 p.0 q.0 p.1 q.1 ∙ ap (λ o. Ok o) (with_first s b v w t u i j a)

pub both_told : (s : Shape) (b : Body) (v w : Value s × BodyValue b) (t u : Tag) (r : Result Ordering Error) → TagIs s v.0 (Some t) → TagIs s w.0 (Some u)
    → (is_apart s ≡ true → is_body_apart b ≡ true → IfOk r (λ o. o ≡ ordering_then (encodings_cmp s v.0 w.0) (bodies_cmp b v.1 w.1)))
    → is_body_apart (field s b) ≡ true → IfOk r (λ o. o ≡ bodies_cmp (field s b) v w)
both_told s b v w t u r i j h a = let parts = field_parts s b a in told_as r (with_first s b v w t u i j a) (h parts.0 parts.1)

pub second_stands : (s : Shape) (b : Body) (v w : Value s × BodyValue b) (n : Option Tag) (u : Tag) → TagIs s v.0 None → TagIs s w.0 (Some u) → FieldsTagIs b v.1 n
    → is_body_apart (field s b) ≡ true → next_cmp n u ≡ bodies_cmp (field s b) v w
second_stands s b v w n u i j k a = sym (absent_first s b v w n u a i j (k (field_parts s b a).1))

pub first_stands : (s : Shape) (b : Body) (v w : Value s × BodyValue b) (n : Option Tag) (t : Tag) → TagIs s v.0 (Some t) → TagIs s w.0 None → FieldsTagIs b w.1 n
    → is_body_apart (field s b) ≡ true → ordering_reverse (next_cmp n t) ≡ bodies_cmp (field s b) v w
first_stands s b v w n t i j k a =
    ap ordering_reverse (second_stands s b w v n t j i k a) ∙ sym (nat_list_cmp_total.antisymm (body_octets (field s b) v) (body_octets (field s b) w))

-- The first tag of a row

-- The first tag of a row is that of the first field, if that is there.
pub first_starts : (s : Shape) (b : Body) (v : Value s × BodyValue b) (t : Tag) → TagIs s v.0 (Some t) → FieldsTagIs (field s b) v (Some t)
unfolding body_octets
first_starts s b v t h a =
    (h.0 ++ body_octets b v.1, ap (λ x. x ++ body_octets b v.1) h.1 ∙ append_assoc (tag_octets t) h.0 (body_octets b v.1), h.2, or_left (begins s t) _ h.3)

-- The first tag of a row is that of the other fields, if the first field is absent.
pub next_starts : (s : Shape) (b : Body) (v : Value s × BodyValue b) (n : Option Tag) → TagIs s v.0 None → FieldsTagIs b v.1 n → FieldsTagIs (field s b) v n
unfolding body_octets
next_starts s b v n i h a = rw i (onto n (is_element s) refl (h (field_parts s b a).1))
  where
    onto : (n : Option Tag) (e : Bool) → is_element s ≡ e → StartsWith (body_begins b) n (body_octets b v.1) → StartsWith (body_begins (field s b)) n (body_octets b v.1)
    onto None e is k = k
    onto (Some t) false is k = (k.0, k.1, k.2, let starts = k.3 in grind (arith, nat_tests))
    onto (Some t) true is k = let there = (stands s v.0 is).2 in absurd (cc i)

-- If a part is too long, so is the whole

pub first_long : (s : Shape) (b : Body) (v w : Value s × BodyValue b) (e : Error) → Overflows e (size s v.0) (size s w.0) → Overflows e (both_len (size s v.0) (size_body b v.1)) (both_len (size s w.0) (size_body b w.1))
first_long s b v w e = longer e (first_over (size s v.0) (size_body b v.1)) (first_over (size s w.0) (size_body b w.1))

pub others_long : (s : Shape) (b : Body) (v w : Value s × BodyValue b) (e : Error) → Overflows e (size_body b v.1) (size_body b w.1) → Overflows e (both_len (size s v.0) (size_body b v.1)) (both_len (size s w.0) (size_body b w.1))
others_long s b v w e = longer e (second_over (size s v.0) (size_body b v.1) (size_only s v.0)) (second_over (size s w.0) (size_body b w.1) (size_only s w.0))

-- The order of fields with a default, whose encoding is empty

pub both_default : (s : Shape) (d : List ℕ) (v w : Value s) → true ≡ bytes_eq (octets_of s v) d → true ≡ bytes_eq (octets_of s w) d → Equal ≡ encodings_cmp (defaulted s d) v w
unfolding octets_of unless
both_default s d v w e f = rw (← e, ← f) refl

pub first_default : (s : Shape) (d : List ℕ) (v w : Value s) → true ≡ bytes_eq (octets_of s v) d → false ≡ bytes_eq (octets_of s w) d
    → is_apart (defaulted s d) ≡ true → Less ≡ encodings_cmp (defaulted s d) v w
unfolding octets_of unless
first_default s d v w e f a = rw (← e, ← f, (stands s w (grind (arith, nat_tests))).2) refl

pub second_default : (s : Shape) (d : List ℕ) (v w : Value s) → false ≡ bytes_eq (octets_of s v) d → true ≡ bytes_eq (octets_of s w) d
    → is_apart (defaulted s d) ≡ true → Greater ≡ encodings_cmp (defaulted s d) v w
unfolding octets_of unless
second_default s d v w e f a = rw (← e, ← f, (stands s v (grind (arith, nat_tests))).2) refl

pub neither_default : (s : Shape) (d : List ℕ) (v w : Value s) (r : Result Ordering Error) → false ≡ bytes_eq (octets_of s v) d → false ≡ bytes_eq (octets_of s w) d
    → (is_apart s ≡ true → IsValid s v → IsValid s w → r ≡ Ok (encodings_cmp s v w))
    → is_apart (defaulted s d) ≡ true → IsValid (defaulted s d) v → IsValid (defaulted s d) w → r ≡ Ok (encodings_cmp (defaulted s d) v w)
unfolding octets_of unless IsValid
neither_default s d v w r e f h a p q = rw (← e, ← f) (h (grind (arith, nat_tests)) p q)

pub neither_told_default : (s : Shape) (d : List ℕ) (v w : Value s) (r : Result Ordering Error) → false ≡ bytes_eq (octets_of s v) d → false ≡ bytes_eq (octets_of s w) d
    → (is_apart s ≡ true → IfOk r (λ o. o ≡ encodings_cmp s v w)) → is_apart (defaulted s d) ≡ true → IfOk r (λ o. o ≡ encodings_cmp (defaulted s d) v w)
unfolding octets_of unless
neither_told_default s d v w r e f h a = rw (← e, ← f) (h (grind (arith, nat_tests)))

pub default_long : (s : Shape) (d : List ℕ) (v w : Value s) (r : Result Ordering Error) → false ≡ bytes_eq (octets_of s v) d → false ≡ bytes_eq (octets_of s w) d
    → IfErr r (λ e. Overflows e (size s v) (size s w)) → IfErr r (λ e. Overflows e (size (defaulted s d) v) (size (defaulted s d) w))
unfolding default_len
default_long s d v w r e f h = rw (← e, ← f) h

pub default_absent : (s : Shape) (d : List ℕ) (v : Value s) → true ≡ bytes_eq (octets_of s v) d → octets_of (defaulted s d) v ≡ []
unfolding octets_of unless
default_absent s d v e = rw (← e) refl

pub default_starts : (s : Shape) (d : List ℕ) (v : Value s) (t : Option _) → false ≡ bytes_eq (octets_of s v) d → TagIs s v t → TagIs (defaulted s d) v t
unfolding octets_of unless
default_starts s d v t e h = rw (← e) h

-- The order of the values of a choice, and their first tags

-- Values of the same alternative

pub both_first : (a b : Shape) (x y : Value a ⊎ Value b) (v w : Value a) (r : Result Ordering Error) → x ≡ inl v → y ≡ inl w
    → (is_apart a ≡ true → IsValid a v → IsValid a w → r ≡ Ok (encodings_cmp a v w))
    → is_apart (either a b) ≡ true → IsValid (either a b) x → IsValid (either a b) y → r ≡ Ok (encodings_cmp (either a b) x y)
unfolding octets_of IsValid
both_first a b x y v w r i j h = rw (i, j) (λ apart p q. h (grind (arith, nat_tests)) p q)

pub first_told : (a b : Shape) (x y : Value a ⊎ Value b) (v w : Value a) (r : Result Ordering Error) → x ≡ inl v → y ≡ inl w
    → (is_apart a ≡ true → IfOk r (λ o. o ≡ encodings_cmp a v w)) → is_apart (either a b) ≡ true → IfOk r (λ o. o ≡ encodings_cmp (either a b) x y)
unfolding octets_of
first_told a b x y v w r i j h = rw (i, j) (λ apart. h (grind (arith, nat_tests)))

pub both_second : (a b : Shape) (x y : Value a ⊎ Value b) (v w : Value b) (r : Result Ordering Error) → x ≡ inr v → y ≡ inr w
    → (is_apart b ≡ true → IsValid b v → IsValid b w → r ≡ Ok (encodings_cmp b v w))
    → is_apart (either a b) ≡ true → IsValid (either a b) x → IsValid (either a b) y → r ≡ Ok (encodings_cmp (either a b) x y)
unfolding octets_of IsValid
both_second a b x y v w r i j h = rw (i, j) (λ apart p q. h (grind (arith, nat_tests)) p q)

pub second_told : (a b : Shape) (x y : Value a ⊎ Value b) (v w : Value b) (r : Result Ordering Error) → x ≡ inr v → y ≡ inr w
    → (is_apart b ≡ true → IfOk r (λ o. o ≡ encodings_cmp b v w)) → is_apart (either a b) ≡ true → IfOk r (λ o. o ≡ encodings_cmp (either a b) x y)
unfolding octets_of
second_told a b x y v w r i j h = rw (i, j) (λ apart. h (grind (arith, nat_tests)))

-- Values of different alternatives

-- Bytes that begin with different tags.
tags_decide : (t u : Tag) (f g : Tag → Bool) (c d : List ℕ) → t ≢ u → StartsWith f (Some t) c → StartsWith g (Some u) d → octets_cmp c d ≡ octets_cmp (tag_octets t) (tag_octets u)
tags_decide t u f g c d other i j =
    rw (i.1, j.1)
    (octets_cmp-append (tag_octets t) (tag_octets u) i.0 j.0 (tag_splits t u)
    ∙ then_first (octets_cmp (tag_octets t) (tag_octets u)) (octets_cmp i.0 j.0) (λ e. other (tag_cmp-equal t u i.2 j.2 e)))

absent : (s : Shape) (v : Value s) → is_element s ≡ true → octets_of s v ≡ [] → ⊥
absent s v e empty = let some = stands s v e in let there = some.2 in cc

pub first_below : (a b : Shape) (v : Value a) (w : Value b) (n : Option Tag) (u : Tag) → TagIs a v n → TagIs b w (Some u)
    → is_apart (either a b) ≡ true → next_cmp n u ≡ octets_cmp (octets_of a v) (octets_of b w)
first_below a b v w None u first second apart = absurd (absent a v (grind (arith, nat_tests)) first)
first_below a b v w (Some t) u first second apart =
    let others : none_of a (begins b) ≡ true = grind (arith, nat_tests) in
    let other : t ≢ u = λ same. false≢true (sym (not_begins a (begins b) t others (subst (λ z. begins b z ≡ true) (sym same) second.3)) ∙ first.3) in
    sym (tags_decide t u (begins a) (begins b) (octets_of a v) (octets_of b w) other first second)

pub never_absent : (a b : Shape) (v : Value a) (w : Value b) → TagIs b w None → is_apart (either a b) ≡ true → ⊥
never_absent a b v w j apart = absent b w (grind (arith, nat_tests)) j

pub mixed : (a b : Shape) (x y : Value a ⊎ Value b) (v : Value a) (w : Value b) (o : Ordering) → x ≡ inl v → y ≡ inr w
    → (is_apart (either a b) ≡ true → o ≡ octets_cmp (octets_of a v) (octets_of b w)) → is_apart (either a b) ≡ true → o ≡ encodings_cmp (either a b) x y
unfolding octets_of
mixed a b x y v w o i j h = rw (i, j) h

pub mixed_turned : (a b : Shape) (x y : Value a ⊎ Value b) (v : Value a) (w : Value b) (o : Ordering) → x ≡ inr w → y ≡ inl v
    → (is_apart (either a b) ≡ true → o ≡ octets_cmp (octets_of a v) (octets_of b w)) → is_apart (either a b) ≡ true → ordering_reverse o ≡ encodings_cmp (either a b) x y
mixed_turned a b x y v w o i j h apart =
    ap ordering_reverse (mixed a b y x v w o j i h apart) ∙ sym (nat_list_cmp_total.antisymm (octets_of (either a b) x) (octets_of (either a b) y))

-- Results for a value that equals a known one

pub compared : (s : Shape) (v w x y : Value s) (r : Result Ordering Error) → v ≡ x → w ≡ y
    → (IsValid s v → IsValid s w → r ≡ Ok (encodings_cmp s v w)) → IsValid s x → IsValid s y → r ≡ Ok (encodings_cmp s x y)
compared s v w x y r d e h =
    subst (λ (a : Value s). IsValid s a → IsValid s y → r ≡ Ok (encodings_cmp s a y)) d (subst (λ (a : Value s). IsValid s v → IsValid s a → r ≡ Ok (encodings_cmp s v a)) e h)

pub told : (s : Shape) (v w x y : Value s) (r : Result Ordering Error) → v ≡ x → w ≡ y → IfOk r (λ o. o ≡ encodings_cmp s v w) → IfOk r (λ o. o ≡ encodings_cmp s x y)
told s v w x y r d e h =
    subst (λ (a : Value s). IfOk r (λ o. o ≡ encodings_cmp s a y)) d (subst (λ (a : Value s). IfOk r (λ o. o ≡ encodings_cmp s v a)) e h)

pub overflowing : (s : Shape) (v w x y : Value s) (r : Result Ordering Error) → v ≡ x → w ≡ y
    → IfErr r (λ e. Overflows e (size s v) (size s w)) → IfErr r (λ e. Overflows e (size s x) (size s y))
overflowing s v w x y r d e h =
    subst (λ (a : Value s). IfErr r (λ f. Overflows f (size s a) (size s y))) d (subst (λ (a : Value s). IfErr r (λ f. Overflows f (size s v) (size s a))) e h)

-- The first tag of a value

pub left_starts : (a b : Shape) (x : Value a ⊎ Value b) (v : Value a) (t : Option Tag) → x ≡ inl v → TagIs a v t → TagIs (either a b) x t
unfolding octets_of
left_starts a b x v None i h = rw i h
left_starts a b x v (Some t) i h = rw i (h.0, h.1, h.2, or_left (begins a t) (begins b t) h.3)

pub right_starts : (a b : Shape) (x : Value a ⊎ Value b) (w : Value b) (t : Option Tag) → x ≡ inr w → TagIs b w t → TagIs (either a b) x t
unfolding octets_of
right_starts a b x w None i h = rw i h
right_starts a b x w (Some t) i h = rw i (h.0, h.1, h.2, or_right (begins a t) (begins b t) h.3)

-- The first tag of a value, and the order of optional values

pub tagged_starts : (t : Tag) (c : Content) (v : ContentValue c) → IsTag t → StartsWith (begins (tagged t c)) (Some t) (octets_of (tagged t c) v)
unfolding octets_of
tagged_starts t c v h = let f = tlv_first t (contents c v) in (f.0, f.1, h, same_tag-refl t)

pub any_starts : (v : AnyValue) → IsTag v.tag → StartsWith (begins any) (Some v.tag) (octets_of any v)
unfolding octets_of
any_starts v h = let f = tlv_first v.tag v.contents in (f.0, f.1, h, refl)

-- Optional values

pub both_some : (s : Shape) (v w : Value s) → encodings_cmp (optional s) (Some v) (Some w) ≡ encodings_cmp s v w
unfolding octets_of
both_some s v w = refl

pub none_some : (s : Shape) → encodings_cmp (optional s) None None ≡ Equal
unfolding octets_of
none_some s = refl

pub second_some : (s : Shape) (w : Value s) → is_apart (optional s) ≡ true → encodings_cmp (optional s) None (Some w) ≡ Less
unfolding octets_of
second_some s w a = rw (stands s w (and_parts (is_element s) (is_apart s) a).0).2 refl

pub first_some : (s : Shape) (v : Value s) → is_apart (optional s) ≡ true → encodings_cmp (optional s) (Some v) None ≡ Greater
unfolding octets_of
first_some s v a = rw (stands s v (and_parts (is_element s) (is_apart s) a).0).2 refl

pub some_order : (s : Shape) (a b : Option (Value s)) (v w : Value s) (r : Result Ordering Error) → a ≡ Some v → b ≡ Some w
    → (is_apart s ≡ true → IsValid s v → IsValid s w → r ≡ Ok (encodings_cmp s v w))
    → is_apart (optional s) ≡ true → IsValid (optional s) a → IsValid (optional s) b → r ≡ Ok (encodings_cmp (optional s) a b)
unfolding octets_of IsValid
some_order s a b v w r i j h =
    rw (i, j) (λ apart p q. h (and_parts (is_element s) (is_apart s) apart).1 p q)

pub some_told : (s : Shape) (a b : Option (Value s)) (v w : Value s) (r : Result Ordering Error) → a ≡ Some v → b ≡ Some w
    → (is_apart s ≡ true → IfOk r (λ o. o ≡ encodings_cmp s v w)) → is_apart (optional s) ≡ true → IfOk r (λ o. o ≡ encodings_cmp (optional s) a b)
unfolding octets_of
some_told s a b v w r i j h = rw (i, j) (λ apart. h (and_parts (is_element s) (is_apart s) apart).1)

pub ruleset option_orders = (both_some, none_some, second_some, first_some)
