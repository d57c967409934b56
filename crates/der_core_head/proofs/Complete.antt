-- Lemmas: the encoding of a valid value decodes to that value, if there are enough levels.
use Rattle.std.proofs.Common.{◌≡◌, ℕ, zero, suc, ◌-◌, ◌≤◌, Bool, true, false, not, List, [], ◌∷◌, ◌++◌, length, Option, Some, None, Result, Ok, refl, sym, ap, subst, ◌∙◌, append_assoc, arith, inl, inr, ◌⊎◌, append-nil, take_at, drop_at, length-append, bytes_eq, cond, ltb, take, drop, Err}
use mathlib.Core.Bool.{◌&&◌}
use Rattle.std.proofs.lemmas.Bool.Decides.{nat_tests}
use Rattle.std.proofs.lemmas.Bool.{and_parts, or_left, or_right, or_cases, false≢true, not-true}
use Rattle.std.specs.List.{flat_map, AllByRecursion}
use Rattle.std.specs.Bool.{⊤}
use Rattle.std.proofs.lemmas.Slice.Eq.{bytes_eq-Decides}
use Rattle.der_core_head.specs.declared.encoding_rules.EncodingRules.TheVariants as encodings
use Rattle.der_core_head.specs.declared.error.ErrorKind.{ErrorKind}
use Rattle.der_core_head.specs.declared.error.ErrorKind.TheVariants as kinds
use Rattle.der_core_head.specs.declared.tag.Tag.{Tag}
use Rattle.der_core_head.specs.Octets.{◌>>=◌, Readings}
use Rattle.der_core_head.specs.Tags.{IsTag, same_tag, tag_at, tag_octets}
use Rattle.der_core_head.specs.Heads.{Fits, head_octets, length_octets, tlv, head_at}
use Rattle.der_core_head.specs.Shapes.{Step, Shape, Content, Body, tagged, any, either, optional, defaulted, nothing, leaf, nested, done, field, only, many, exactly, few, in_order, Value, ContentValue, BodyValue, AnyValue, octets_of, contents, body_octets, unless, IsValid, IsContent, IsBody, Follows, AllInOrder, begins}
use Rattle.der_core_head.specs.Spelling.{is_apart, is_content_apart, is_body_apart, is_element, is_clear, is_end, none_of, body_begins, are_enough, are_content_enough, are_body_enough}
use Rattle.der_core_head.specs.Grammar.{whole, read, read_content, read_body, read_many, read_exactly, read_in_order, follows_last, tlv_at, any_at, peek_at, chosen, opt_at, default_at, either_at, value_at, slice_at, leaf_at, opt_after, default_after}
use Rattle.der_core_head.proofs.TagLaws.{tag_again, tag_octets-some, same_tag-refl, same_tags}
use Rattle.der_core_head.proofs.HeadLaws.{head_again, fits_contents}
use Rattle.der_core_head.proofs.LeafLaws.{leaf_again}
use Rattle.der_core_head.proofs.Results.{value_enough, slice_ok, follows_ok, bind_ok}

-- Encodings are decoded

value_again : {P : Type 0} (F : Readings P) (c r : List ℕ) (p : P) → F c ≡ Ok (p, []) → value_at F (length c) (c ++ r) ≡ Ok (p, r)
value_again F c r p e =
    value_enough F (length c) (c ++ r) (omega (arith, length-append c r)) ∙ (rw (take_at c r (length c) refl, drop_at c r (length c) refl, e) refl)

tlv_again : {P : Type 0} (t : Tag) (F : Readings P) (c r : List ℕ) (v : P) → IsTag t → Fits (tlv t c) → F c ≡ Ok (v, []) → tlv_at encodings.Der t F (tlv t c ++ r) ≡ Ok (v, r)
unfolding tlv_at tlv
tlv_again t F c r v k h e =
    ap (tlv_at encodings.Der t F) (append_assoc (head_octets t (length c)) c r) ∙ rw (head_again t (length c) (c ++ r) k (fits_contents t c h), same_tag-refl t) (value_again F c r v e)

any_again : (v : AnyValue) (r : List ℕ) → IsTag v.tag → Fits (tlv v.tag v.contents) → any_at encodings.Der (tlv v.tag v.contents ++ r) ≡ Ok (v, r)
unfolding any_at tlv
any_again v r k h =
    let s : slice_at (length v.contents) (v.contents ++ r) ≡ Ok (v.contents, r) =
    slice_ok (length v.contents) (v.contents ++ r) (omega (arith, length-append v.contents r)) ∙ rw (take_at v.contents r (length v.contents) refl, drop_at v.contents r (length v.contents) refl) refl in
    ap (any_at encodings.Der) (append_assoc (head_octets v.tag (length v.contents)) v.contents r) ∙ rw (head_again v.tag (length v.contents) (v.contents ++ r) k (fits_contents v.tag v.contents h), s) refl

-- A value with a header begins with its tag.
pub tlv_first : (t : Tag) (c : List ℕ) → (w : List ℕ) × (tlv t c ≡ tag_octets t ++ w)
unfolding tlv head_octets
tlv_first t c = (length_octets (length c) ++ c, append_assoc (tag_octets t) (length_octets (length c)) c)

-- The bytes begin with one of these tags.
abbrev pub StandsFirst : (Tag → Bool) → List ℕ → Type 0
StandsFirst first b = (t : Tag) × (w : List ℕ) × (b ≡ tag_octets t ++ w) × IsTag t × (first t ≡ true)

abbrev pub BeginsShape : Shape → List ℕ → Type 0
BeginsShape s b = StandsFirst (begins s) b

-- Bytes still begin with one of these tags if more bytes follow.
pub first_more : (first : Tag → Bool) (b r : List ℕ) → StandsFirst first b → StandsFirst first (b ++ r)
first_more first b r f = (f.0, f.1 ++ r, ap (λ (x : List ℕ). x ++ r) f.2 ∙ append_assoc (tag_octets f.0) f.1 r, f.3, f.4)

pub element_first : (s : Shape) (v : Value s) → is_element s ≡ true → IsValid s v → BeginsShape s (octets_of s v)
unfolding octets_of IsValid
element_first (tagged t c) v e h = let f = tlv_first t (contents c v) in (t, f.0, f.1, h.1, same_tag-refl t)
element_first any v e h = let f = tlv_first v.tag v.contents in (v.tag, f.0, f.1, h.1, refl)
element_first (either a b) (inl v) e h =
    let f = element_first a v (and_parts (is_element a) (is_element b) e).0 h in
    (f.0, f.1, f.2, f.3, or_left (begins a f.0) (begins b f.0) f.4)
element_first (either a b) (inr v) e h =
    let f = element_first b v (and_parts (is_element a) (is_element b) e).1 h in
    (f.0, f.1, f.2, f.3, or_right (begins a f.0) (begins b f.0) f.4)
element_first _ v e h = absurd (false≢true e)

-- The encoding of an element isn't empty.
pub element_some : (s : Shape) (v : Value s) → is_element s ≡ true → IsValid s v → (b : ℕ) × (w : List ℕ) × (octets_of s v ≡ b ∷ w)
element_some s v e h =
    let f = element_first s v e h in
    let t = tag_octets-some f.0 in
    (t.0, t.1 ++ f.1, f.2 ∙ ap (λ (x : List ℕ). x ++ f.1) t.2)

-- The encoding of a field is empty, or begins with one of the first tags of its shape.
pub field_first : (s : Shape) (v : Value s) → is_apart s ≡ true → IsValid s v → ((octets_of s v ≡ []) × (is_element s ≡ false)) ⊎ BeginsShape s (octets_of s v)
unfolding octets_of IsValid unless
field_first (tagged t c) v a h = inr (element_first (tagged t c) v refl h)
field_first any v a h = inr (element_first any v refl h)
field_first (either x y) v a h = inr (element_first (either x y) v (and_parts (is_element x && is_element y) _ a).0 h)
field_first (optional s) None a h = inl (refl, refl)
field_first (optional s) (Some v) a h = inr (element_first s v (and_parts (is_element s) (is_apart s) a).0 h)
field_first nothing v a h = inl (refl, refl)
field_first (defaulted s d) v a h = go (bytes_eq (octets_of s v) d)
  where
    go : (b : Bool) → ((unless b (octets_of s v) ≡ []) × (is_element (defaulted s d) ≡ false)) ⊎ BeginsShape s (unless b (octets_of s v))
    go true = inl (refl, refl)
    go false = inr (element_first s v (and_parts (is_element s) (is_apart s) (and_parts (is_element s && is_apart s) _ a).0).0 h)

list_first : (s : Shape) (v : List (Value s)) → (is_element s && is_apart s) ≡ true → AllByRecursion (IsValid s) v → (flat_map (octets_of s) v ≡ []) ⊎ StandsFirst (begins s) (flat_map (octets_of s) v)
list_first s [] a h = inl refl
list_first s (x ∷ xs) a h = inr (first_more (begins s) (octets_of s x) (flat_map (octets_of s) xs) (element_first s x (and_parts (is_element s) (is_apart s) a).0 h.0))

-- The encoding of a body is empty, or begins with one of its first tags.
pub body_first : (b : Body) (v : BodyValue b) → is_body_apart b ≡ true → IsBody b v → (body_octets b v ≡ []) ⊎ StandsFirst (body_begins b) (body_octets b v)
unfolding body_octets IsBody
body_first done v a h = inl refl
body_first (field s b) v a h =
    let p = and_parts (is_apart s) (is_body_apart b) (and_parts (is_clear s b) _ a).1 in
    elim (field_first s v.0 p.0 h.0) [
      | inr f ↦ let m = first_more (begins s) (octets_of s v.0) (body_octets b v.1) f in inr (m.0, m.1, m.2, m.3, or_left (begins s m.0) _ m.4)
      | inl n ↦ elim (body_first b v.1 p.1 h.1) [
        | inl m ↦ inl (ap (λ (x : List ℕ). x ++ body_octets b v.1) n.0 ∙ m)
        | inr f ↦ inr (f.0, f.1, ap (λ (x : List ℕ). x ++ body_octets b v.1) n.0 ∙ f.2, f.3, or_right (begins s f.0) _ (later (is_element s) (body_begins b f.0) n.1 f.4))
      ]
    ]
  where
    later : (x y : Bool) → x ≡ false → y ≡ true → (not x && y) ≡ true
    later x y e f = rw (e, f) refl
body_first (only s) v a h = inr (element_first s v (and_parts (is_element s) (is_apart s) a).0 h)
body_first (many s) v a h = list_first s v a h
body_first (exactly n s) v a h = list_first s v a h.0
body_first (few n s) v a h = list_first s v a h.0
body_first (in_order how s) v a h = list_first s v a h.0

-- Peeking at the encoding of a tag gives the tag.
pub peek_again : (t : Tag) (r : List ℕ) → IsTag t → peek_at encodings.Der (tag_octets t ++ r) ≡ Ok (Some t)
peek_again t r h =
    let f = tag_octets-some t in
    let is : tag_octets t ++ r ≡ f.0 ∷ (f.1 ++ r) = ap (λ (x : List ℕ). x ++ r) f.2 in
    let e : tag_at (f.0 ∷ (f.1 ++ r)) ≡ Ok (t, r) = ap tag_at (sym is) ∙ tag_again t r h in
    ap (peek_at encodings.Der) is ∙ rw e refl

-- The bytes are empty, or begin with a tag that isn't one of these.
abbrev pub StopsBefore : (Tag → Bool) → List ℕ → Type 0
StopsBefore first r = (t : Option Tag) × (peek_at encodings.Der r ≡ Ok t) × (chosen first t ≡ None)

abbrev pub Stops : Shape → List ℕ → Type 0
Stops s r = is_element s ≡ false → StopsBefore (begins s) r

pub stops_end : (s : Shape) → Stops s []
stops_end s absent = (None, refl, refl)

pub stops_tag : (s : Shape) (t : Tag) (r : List ℕ) → IsTag t → begins s t ≡ false → Stops s (tag_octets t ++ r)
stops_tag s t r h n absent = (Some t, peek_again t r h, rw n refl)

-- Any bytes may follow an element.
pub stops_element : (s : Shape) (r : List ℕ) → is_element s ≡ true → Stops s r
stops_element s r e absent = absurd (false≢true (sym absent ∙ e))

pub not_begins : (s : Shape) (f : Tag → Bool) (t : Tag) → none_of s f ≡ true → f t ≡ true → begins s t ≡ false
not_begins (tagged u c) f t n h = go (same_tag u t) refl
  where
    go : (b : Bool) → same_tag u t ≡ b → b ≡ false
    go true e = absurd (false≢true (sym (not-true (f u) n) ∙ ap f (same_tags u t e) ∙ h))
    go false e = refl
not_begins any f t n h = absurd (false≢true n)
not_begins (either a b) f t n h =
    rw (not_begins a f t (grind (arith, nat_tests)) h, not_begins b f t (grind (arith, nat_tests)) h) refl
not_begins (optional s) f t n h = not_begins s f t n h
not_begins (defaulted s d) f t n h = not_begins s f t n h
not_begins nothing f t n h = refl

pub end_empty : (b : Body) (v : BodyValue b) → is_end b ≡ true → body_octets b v ≡ []
unfolding body_octets
end_empty done v e = refl
end_empty _ v e = absurd (false≢true e)

-- The bytes after a field don't begin with one of its first tags.
pub next_stops : (s : Shape) (b : Body) (v : BodyValue b) → is_clear s b ≡ true → is_body_apart b ≡ true → IsBody b v → Stops s (body_octets b v)
next_stops s b v c a h =
    elim (or_cases (is_element s) _ c) [
      | inl e ↦ stops_element s (body_octets b v) e
      | inr e ↦ elim (or_cases (is_end b) (none_of s (body_begins b)) e) [
        | inl d ↦ subst (Stops s) (sym (end_empty b v d)) (stops_end s)
        | inr n ↦ elim (body_first b v a h) [
          | inl z ↦ subst (Stops s) (sym z) (stops_end s)
          | inr f ↦ subst (Stops s) (sym f.2) (stops_tag s f.0 f.1 f.3 (not_begins s (body_begins b) f.0 n f.4))
        ]
      ]
    ]

opt_none : {P : Type 0} (first : Tag → Bool) (F : Readings P) (r : List ℕ) → StopsBefore first r → opt_at encodings.Der first F r ≡ Ok (None, r)
unfolding opt_at
opt_none first F r h = rw (h.1, h.2) refl

-- An optional value is decoded if the bytes begin with one of its first tags.
opt_some : {P : Type 0} (first : Tag → Bool) (F : Readings P) (b : List ℕ) (x : P) (r : List ℕ) → StandsFirst first b → F b ≡ Ok (x, r) → opt_at encodings.Der first F b ≡ Ok (Some x, r)
unfolding opt_at
opt_some first F b x r f e = rw (ap (peek_at encodings.Der) f.2 ∙ peek_again f.0 f.1 f.3, f.4, e) refl

default_none : {P : Type 0} (first : Tag → Bool) (D : Result (P × List ℕ) ErrorKind) (is : P → Bool) (F : Readings P) (v : P) (r : List ℕ) → StopsBefore first r → D ≡ Ok (v, []) → default_at encodings.Der first D is F r ≡ Ok (v, r)
unfolding default_at
default_none first D is F v r h e = rw (h.1, h.2, e) refl

default_some : {P : Type 0} (first : Tag → Bool) (D : Result (P × List ℕ) ErrorKind) (is : P → Bool) (F : Readings P) (b : List ℕ) (v : P) (r : List ℕ) → StandsFirst first b → F b ≡ Ok (v, r) → is v ≡ false → default_at encodings.Der first D is F b ≡ Ok (v, r)
unfolding default_at
default_some first D is F b v r f e n = rw (ap (peek_at encodings.Der) f.2 ∙ peek_again f.0 f.1 f.3, f.4, e, n) refl

left_again : {P Q : Type 0} (a b : Tag → Bool) (F : Readings P) (G : Readings Q) (w : List ℕ) (x : P) (r : List ℕ) → StandsFirst a w → F w ≡ Ok (x, r) → either_at encodings.Der a b F G w ≡ Ok (inl x, r)
unfolding either_at
left_again a b F G w x r f e = rw (ap tag_at f.2 ∙ tag_again f.0 f.1 f.3, f.4, e) refl

right_again : {P Q : Type 0} (a b : Tag → Bool) (F : Readings P) (G : Readings Q) (w : List ℕ) (x : Q) (r : List ℕ) → (f : StandsFirst b w) → a f.0 ≡ false → G w ≡ Ok (x, r) → either_at encodings.Der a b F G w ≡ Ok (inr x, r)
unfolding either_at
right_again a b F G w x r f n e = rw (ap tag_at f.2 ∙ tag_again f.0 f.1 f.3, n, f.4, e) refl

-- The decoder decodes the encoding of each valid value, whatever follows it.
abbrev ReadsAgain : {P : Type 0} → Readings P → (P → Type 0) → (P → List ℕ) → Type 0
ReadsAgain {P} F V o = (x : P) (t : List ℕ) → V x → F (o x ++ t) ≡ Ok (x, t)

abbrev TakesSome : {P : Type 0} → (P → Type 0) → (P → List ℕ) → Type 0
TakesSome {P} V o = (x : P) → V x → (b : ℕ) × (w : List ℕ) × (o x ≡ b ∷ w)

many_again : {P : Type 0} (e : ErrorKind) (F : Readings P) (V : P → Type 0) (o : P → List ℕ) → ReadsAgain F V o → TakesSome V o
    → (xs : List P) (n : ℕ) → length xs ≤ n → AllByRecursion V xs → read_many e F n (flat_map o xs) ≡ Ok (xs, [])
unfolding read_many
many_again e F V o each some [] n l h = refl
many_again e F V o each some (x ∷ xs) zero l h = absurd (omega arith)
many_again e F V o each some (x ∷ xs) (suc n) l h =
    let f = some x h.0 in
    let rest = flat_map o xs in
    let is : o x ++ rest ≡ f.0 ∷ (f.1 ++ rest) = ap (λ (q : List ℕ). q ++ rest) f.2 in
    let more = many_again e F V o each some xs n (omega arith) h.1 in
    let first : F (f.0 ∷ (f.1 ++ rest)) ≡ Ok (x, rest) = ap F (sym is) ∙ each x rest h.0 in
    ap (read_many e F (suc n)) is ∙ rw (first, more) refl

-- There are no more values than bytes if no encoding is empty.
no_more : {P : Type 0} (V : P → Type 0) (o : P → List ℕ) → TakesSome V o → (xs : List P) → AllByRecursion V xs → length xs ≤ length (flat_map o xs)
no_more V o some [] h = omega arith
no_more V o some (x ∷ xs) h =
    let f = some x h.0 in
    omega (arith, ap length f.2, length-append (o x) (flat_map o xs), no_more V o some xs h.1)

exactly_again : {P : Type 0} (F : Readings P) (V : P → Type 0) (o : P → List ℕ) → ReadsAgain F V o → (xs : List P) (n : ℕ) → AllByRecursion V xs → length xs ≡ n → read_exactly F n (flat_map o xs) ≡ Ok (xs, [])
unfolding read_exactly
exactly_again F V o each [] zero h l = refl
exactly_again F V o each (x ∷ xs) (suc n) h l = rw (each x (flat_map o xs) h.0, exactly_again F V o each xs n h.1 (omega (arith, l))) refl
exactly_again F V o each _ _ h l = absurd cc

abbrev Behind : {P : Type 0} → Step → (P → List ℕ) → Option (List ℕ) → List P → Type 0
Behind how o last [] = ⊤
Behind how o None (x ∷ xs) = ⊤
Behind how o (Some a) (x ∷ xs) = Follows how a (o x)

after_first : {P : Type 0} (how : Step) (o : P → List ℕ) (x : P) (xs : List P) → AllInOrder how o (x ∷ xs) → Behind how o (Some (o x)) xs × AllInOrder how o xs
after_first how o x [] h = (tt, tt)
after_first how o x (y ∷ ys) h = h

behind_last : {P : Type 0} (how : Step) (o : P → List ℕ) (last : Option (List ℕ)) (x : P) (xs : List P) → Behind how o last (x ∷ xs) → follows_last how last (o x) ≡ Ok tt
behind_last how o None x xs h = refl
behind_last how o (Some a) x xs h = follows_ok how a (o x) h

ordered_again : {P : Type 0} (how : Step) (F : Readings P) (V : P → Type 0) (o : P → List ℕ) → ReadsAgain F V o → TakesSome V o
    → (last : Option (List ℕ)) (xs : List P) (n : ℕ) → length (flat_map o xs) ≤ n → AllByRecursion V xs → Behind how o last xs → AllInOrder how o xs → read_in_order how o F last n (flat_map o xs) ≡ Ok (xs, [])
unfolding read_in_order
ordered_again how F V o each some last [] n l h u k = refl
ordered_again how F V o each some last (x ∷ xs) n l h u k =
    let f = some x h.0 in
    let rest = flat_map o xs in
    let is : o x ++ rest ≡ f.0 ∷ (f.1 ++ rest) = ap (λ (q : List ℕ). q ++ rest) f.2 in
    let long : length (o x ++ rest) ≡ suc (length (f.1 ++ rest)) = ap length is in
    let m : n ≡ suc (n - 1) = omega arith in
    let next = after_first how o x xs k in
    let more = ordered_again how F V o each some (Some (o x)) xs (n - 1) (omega (arith, length-append f.1 rest)) h.1 next.0 next.1 in
    let first : F (f.0 ∷ (f.1 ++ rest)) ≡ Ok (x, rest) = ap F (sym is) ∙ each x rest h.0 in
    ap (read_in_order how o F last n) is ∙ ap (λ k. read_in_order how o F last k (f.0 ∷ (f.1 ++ rest))) m ∙ rw (first, behind_last how o last x xs u, more) refl

none_behind : {P : Type 0} (how : Step) (o : P → List ℕ) (xs : List P) → Behind how o None xs
none_behind how o [] = tt
none_behind how o (x ∷ xs) = tt

default_again : (s : Shape) (d : List ℕ) (room : ℕ) (v : Value s) (r : List ℕ) (b : Bool) → bytes_eq (octets_of s v) d ≡ b → StopsBefore (begins s) r → BeginsShape s (octets_of s v)
    → read s room (octets_of s v ++ r) ≡ Ok (v, r) → read s 64 (octets_of s v ++ []) ≡ Ok (v, [])
    → default_at encodings.Der (begins s) (read s 64 d) (λ v. bytes_eq (octets_of s v) d) (read s room) (unless b (octets_of s v) ++ r) ≡ Ok (v, r)
unfolding unless
default_again s d room v r true is stops f now at =
    let same : octets_of s v ++ [] ≡ d = append-nil (octets_of s v) ∙ (bytes_eq-Decides (octets_of s v) d).0 is in
    default_none (begins s) (read s 64 d) (λ v. bytes_eq (octets_of s v) d) (read s room) v r stops (ap (read s 64) (sym same) ∙ at)
default_again s d room v r false is stops f now at =
    default_some (begins s) (read s 64 d) (λ v. bytes_eq (octets_of s v) d) (read s room) (octets_of s v ++ r) v r (first_more (begins s) (octets_of s v) r f) now is

-- The encoding of a valid value decodes to it.
mutual
  unfolding octets_of IsValid

  pub complete : (s : Shape) (room : ℕ) (v : Value s) (r : List ℕ) → is_apart s ≡ true → are_enough s room ≡ true → IsValid s v → Stops s r → read s room (octets_of s v ++ r) ≡ Ok (v, r)
  complete (tagged t c) room v r a n h o = tlv_again t (read_content c t room) (contents c v) r v h.1 h.2 (complete_content c t room v a n h.0)
  complete any room v r a n h o = any_again v r h.1 h.2
  complete (either x y) room (inl v) r a n h o =
      let f = first_more (begins x) (octets_of x v) r (element_first x v (grind (arith, nat_tests)) h) in
      left_again (begins x) (begins y) (read x room) (read y room) (octets_of x v ++ r) v r f (complete x room v r (grind (arith, nat_tests)) (grind (arith, nat_tests)) h (stops_element x r (grind (arith, nat_tests))))
  complete (either x y) room (inr v) r a n h o =
      let f = first_more (begins y) (octets_of y v) r (element_first y v (grind (arith, nat_tests)) h) in
      right_again (begins x) (begins y) (read x room) (read y room) (octets_of y v ++ r) v r f (not_begins x (begins y) f.0 (grind (arith, nat_tests)) f.4) (complete y room v r (grind (arith, nat_tests)) (grind (arith, nat_tests)) h (stops_element y r (grind (arith, nat_tests))))
  complete (optional s) room None r a n h o = opt_none (begins s) (read s room) r (o refl)
  complete (optional s) room (Some v) r a n h o =
      opt_some (begins s) (read s room) (octets_of s v ++ r) v r (first_more (begins s) (octets_of s v) r (element_first s v (grind (arith, nat_tests)) h)) (complete s room v r (grind (arith, nat_tests)) n h (stops_element s r (grind (arith, nat_tests))))
  complete nothing room v r a n h o = refl
  complete (defaulted s d) room v r a n h o =
      default_again s d room v r (bytes_eq (octets_of s v) d) refl (o refl) (element_first s v (grind (arith, nat_tests)) h) (complete s room v r (grind (arith, nat_tests)) (grind (arith, nat_tests)) h (stops_element s r (grind (arith, nat_tests)))) (complete s 64 v [] (grind (arith, nat_tests)) (grind (arith, nat_tests)) h (stops_element s [] (grind (arith, nat_tests))))

  pub complete_content : (c : Content) (t : Tag) (room : ℕ) (v : ContentValue c) → is_content_apart c ≡ true → are_content_enough c room ≡ true → IsContent c v → read_content c t room (contents c v) ≡ Ok (v, [])
  complete_content (leaf l) t room v a n h = ap leaf_at (leaf_again l t v h)
  complete_content (nested b) t zero v a n h = absurd (false≢true n)
  complete_content (nested b) t (suc room) v a n h = ap (λ x. x >>= whole) (complete_body b room v a n h)

  pub complete_body : (b : Body) (room : ℕ) (v : BodyValue b) → is_body_apart b ≡ true → are_body_enough b room ≡ true → IsBody b v → read_body b room (body_octets b v) ≡ Ok (v, [])
  complete_body done room v a n h = refl
  complete_body (field s b) room v a n h =
      let x = complete s room v.0 (body_octets b v.1) (grind (arith, nat_tests)) (grind (arith, nat_tests)) h.0 (next_stops s b v.1 (grind (arith, nat_tests)) (grind (arith, nat_tests)) h.1) in
      let y = complete_body b room v.1 (grind (arith, nat_tests)) (grind (arith, nat_tests)) h.1 in
      rw (x, y) refl
  complete_body (only s) room v a n h =
      ap (read s room) (sym (append-nil (octets_of s v))) ∙ complete s room v [] (grind (arith, nat_tests)) n h (stops_end s)
  complete_body (many s) room v a n h =
      many_again kinds.TrailingData (read s room) (IsValid s) (octets_of s) (λ x t k. complete s room x t (grind (arith, nat_tests)) n k (stops_element s t (grind (arith, nat_tests)))) (λ x k. element_some s x (grind (arith, nat_tests)) k) v (length (flat_map (octets_of s) v))
      (no_more (IsValid s) (octets_of s) (λ x k. element_some s x (grind (arith, nat_tests)) k) v h) h
  complete_body (exactly k s) room v a n h =
      exactly_again (read s room) (IsValid s) (octets_of s) (λ x t q. complete s room x t (grind (arith, nat_tests)) n q (stops_element s t (grind (arith, nat_tests)))) v k h.0 h.1
  complete_body (few k s) room v a n h =
      many_again kinds.Overlength (read s room) (IsValid s) (octets_of s) (λ x t q. complete s room x t (grind (arith, nat_tests)) n q (stops_element s t (grind (arith, nat_tests)))) (λ x q. element_some s x (grind (arith, nat_tests)) q) v k h.1 h.0
  complete_body (in_order how s) room v a n h =
      ordered_again how (read s room) (IsValid s) (octets_of s) (λ x t k. complete s room x t (grind (arith, nat_tests)) n k (stops_element s t (grind (arith, nat_tests)))) (λ x k. element_some s x (grind (arith, nat_tests)) k) None v (length (flat_map (octets_of s) v)) (omega arith) h.0 (none_behind how (octets_of s) v) h.1

-- The encoding of an element decodes to it, whatever follows.
pub complete_element : (s : Shape) (room : ℕ) (v : Value s) (r : List ℕ) → is_element s ≡ true → is_apart s ≡ true → are_enough s room ≡ true → IsValid s v → read s room (octets_of s v ++ r) ≡ Ok (v, r)
complete_element s room v r e a n h = complete s room v r a n h (stops_element s r e)

-- More levels

-- The second decoder decodes what the first one does, with the same result.
abbrev pub Extends : {P : Type 0} → Readings P → Readings P → Type 0
Extends {P} F G = (w : List ℕ) (x : P × List ℕ) → F w ≡ Ok x → G w ≡ Ok x

before_more : {A B : Type 0} (f g : Result A ErrorKind) (k : A → Result B ErrorKind) (z : B) → ((x : A) → f ≡ Ok x → g ≡ Ok x) → (f >>= k) ≡ Ok z → (g >>= k) ≡ Ok z
before_more f g k z h e = let x = bind_ok f k z e in ap (λ r. r >>= k) (h x.0 x.1) ∙ x.2

then_more : {A B : Type 0} (f : Result A ErrorKind) (k l : A → Result B ErrorKind) (z : B) → ((x : A) → k x ≡ Ok z → l x ≡ Ok z) → (f >>= k) ≡ Ok z → (f >>= l) ≡ Ok z
then_more f k l z h e = let x = bind_ok f k z e in ap (λ r. r >>= l) x.1 ∙ h x.0 x.2

if_more : {A : Type 0} (b : Bool) (x y d : Result A ErrorKind) (z : A) → (x ≡ Ok z → y ≡ Ok z) → cond b x d ≡ Ok z → cond b y d ≡ Ok z
if_more b x y d z h e = grind (arith, nat_tests)

unless_more : {A : Type 0} (b : Bool) (x y d : Result A ErrorKind) (z : A) → (x ≡ Ok z → y ≡ Ok z) → cond b d x ≡ Ok z → cond b d y ≡ Ok z
unless_more b x y d z h e = grind (arith, nat_tests)

value_more : {P : Type 0} (F G : Readings P) (n : ℕ) → Extends F G → Extends (value_at F n) (value_at G n)
unfolding value_at
value_more F G n h w x e =
    unless_more (ltb (length w) n) _ _ (Err kinds.Incomplete) x (before_more _ _ (λ x. Ok (x.0, drop n w)) x (λ y. before_more (F (take n w)) (G (take n w)) whole y (h (take n w)))) e

tlv_more : {P : Type 0} (t : Tag) (F G : Readings P) → Extends F G → Extends (tlv_at encodings.Der t F) (tlv_at encodings.Der t G)
unfolding tlv_at
tlv_more t F G h w x e = then_more (head_at w) _ _ x (λ y. if_more (same_tag y.0.tag t) _ _ (Err kinds.TagUnexpected) x (value_more F G y.0.len h y.1 x)) e

opt_more : {P : Type 0} (first : Tag → Bool) (F G : Readings P) → Extends F G → Extends (opt_at encodings.Der first F) (opt_at encodings.Der first G)
unfolding opt_at
opt_more {P} first F G h w x e = then_more (peek_at encodings.Der w) (λ t. opt_after F w (chosen first t)) (λ t. opt_after G w (chosen first t)) x (λ t. after (chosen first t)) e
  where
    after : (o : Option Tag) → opt_after F w o ≡ Ok x → opt_after G w o ≡ Ok x
    after None e = e
    after (Some t) e = before_more (F w) (G w) (λ x. Ok (Some x.0, x.1)) x (h w) e

default_more : {P : Type 0} (first : Tag → Bool) (d : Result (P × List ℕ) ErrorKind) (is : P → Bool) (F G : Readings P) → Extends F G → Extends (default_at encodings.Der first d is F) (default_at encodings.Der first d is G)
unfolding default_at
default_more {P} first d is F G h w x e = then_more (peek_at encodings.Der w) (λ t. default_after d is F w (chosen first t)) (λ t. default_after d is G w (chosen first t)) x (λ t. after (chosen first t)) e
  where
    after : (o : Option Tag) → default_after d is F w o ≡ Ok x → default_after d is G w o ≡ Ok x
    after None e = e
    after (Some t) e = before_more (F w) (G w) (λ x. cond (is x.0) (Err (kinds.Noncanonical t)) (Ok x)) x (h w) e

either_more : {P Q : Type 0} (a b : Tag → Bool) (F H : Readings P) (G K : Readings Q) → Extends F H → Extends G K → Extends (either_at encodings.Der a b F G) (either_at encodings.Der a b H K)
unfolding either_at
either_more a b F H G K h k w x e = then_more (tag_at w) _ _ x (λ t. both (a t.0) (b t.0)) e
  where
    both : (c d : Bool) → cond c (F w >>= λ x. Ok (inl x.0, x.1)) (cond d (G w >>= λ x. Ok (inr x.0, x.1)) (Err kinds.TagUnexpected)) ≡ Ok x
        → cond c (H w >>= λ x. Ok (inl x.0, x.1)) (cond d (K w >>= λ x. Ok (inr x.0, x.1)) (Err kinds.TagUnexpected)) ≡ Ok x
    both true d e = before_more (F w) (H w) (λ x. Ok (inl x.0, x.1)) x (h w) e
    both false true e = before_more (G w) (K w) (λ x. Ok (inr x.0, x.1)) x (k w) e
    both false false e = e

-- A value, and the values after it.
front_more : {P Q : Type 0} (F G : Readings P) (K L : P → Readings Q) → Extends F G → ((x : P) → Extends (K x) (L x)) → Extends (λ w. F w >>= λ x. K x.0 x.1) (λ w. G w >>= λ x. L x.0 x.1)
front_more F G K L h k w z e =
    let x = bind_ok (F w) (λ x. K x.0 x.1) z e in
    ap (λ r. r >>= λ x. L x.0 x.1) (h w x.0 x.1) ∙ k x.0.0 x.0.1 z x.2

many_more : {P : Type 0} (d : ErrorKind) (F G : Readings P) → Extends F G → (n : ℕ) → Extends (read_many d F n) (read_many d G n)
unfolding read_many
many_more d F G h n [] z e = e
many_more d F G h zero (b ∷ w) z e = e
many_more d F G h (suc n) (b ∷ w) z e = front_more F G _ _ h (λ x r y. before_more _ _ (λ y. Ok (x ∷ y.0, y.1)) y (many_more d F G h n r)) (b ∷ w) z e

exactly_more : {P : Type 0} (F G : Readings P) → Extends F G → (n : ℕ) → Extends (read_exactly F n) (read_exactly G n)
unfolding read_exactly
exactly_more F G h zero w z e = e
exactly_more F G h (suc n) w z e = front_more F G _ _ h (λ x r y. before_more _ _ (λ y. Ok (x ∷ y.0, y.1)) y (exactly_more F G h n r)) w z e

ordered_more : {P : Type 0} (how : Step) (o : P → List ℕ) (F G : Readings P) → Extends F G → (last : Option (List ℕ)) (n : ℕ) → Extends (read_in_order how o F last n) (read_in_order how o G last n)
unfolding read_in_order
ordered_more how o F G h last n [] z e = e
ordered_more how o F G h last zero (b ∷ w) z e = e
ordered_more how o F G h last (suc n) (b ∷ w) z e =
    front_more F G _ _ h
    (λ x r y. then_more (follows_last how last (o x)) _ _ y (λ _. before_more _ _ (λ y. Ok (x ∷ y.0, y.1)) y (ordered_more how o F G h (Some (o x)) n r))) (b ∷ w) z e

mutual
  pub more_read : (s : Shape) (m n : ℕ) → m ≤ n → Extends (read s m) (read s n)
  more_read (tagged t c) m n le w x e = tlv_more t (read_content c t m) (read_content c t n) (more_content c t m n le) w x e
  more_read any m n le w x e = e
  more_read (either a b) m n le w x e = either_more (begins a) (begins b) (read a m) (read a n) (read b m) (read b n) (more_read a m n le) (more_read b m n le) w x e
  more_read (optional s) m n le w x e = opt_more (begins s) (read s m) (read s n) (more_read s m n le) w x e
  more_read (defaulted s d) m n le w x e = default_more (begins s) (read s 64 d) (λ v. bytes_eq (octets_of s v) d) (read s m) (read s n) (more_read s m n le) w x e
  more_read nothing m n le w x e = e

  pub more_content : (c : Content) (t : Tag) (m n : ℕ) → m ≤ n → Extends (read_content c t m) (read_content c t n)
  more_content (leaf l) t m n le w x e = e
  more_content (nested b) t zero n le w x e = absurd cc
  more_content (nested b) t (suc m) zero le w x e = absurd (omega arith)
  more_content (nested b) t (suc m) (suc n) le w x e = before_more (read_body b m w) (read_body b n w) whole x (more_body b m n (omega arith) w) e

  pub more_body : (b : Body) (m n : ℕ) → m ≤ n → Extends (read_body b m) (read_body b n)
  more_body done m n le w x e = e
  more_body (field s b) m n le w x e = front_more (read s m) (read s n) _ _ (more_read s m n le) (λ x r y. before_more _ _ (λ y. Ok ((x, y.0), y.1)) y (more_body b m n le r)) w x e
  more_body (only s) m n le w x e = more_read s m n le w x e
  more_body (many s) m n le w x e = many_more kinds.TrailingData (read s m) (read s n) (more_read s m n le) (length w) w x e
  more_body (exactly k s) m n le w x e = exactly_more (read s m) (read s n) (more_read s m n le) k w x e
  more_body (few k s) m n le w x e = many_more kinds.Overlength (read s m) (read s n) (more_read s m n le) k w x e
  more_body (in_order how s) m n le w x e = ordered_more how (octets_of s) (read s m) (read s n) (more_read s m n le) None (length w) w x e
