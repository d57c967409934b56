-- Lemmas about valid values under two bounds of arcs.
use Rattle.std.proofs.Common.{ℕ, zero, suc, ◌<◌, ◌≤◌, ◌⊎◌, inl, inr, List, [], ◌∷◌, ◌++◌, length, Some, None, refl, subst, arith, ◌↔◌, flat_map, Contains, ◌≡◌, Ok, Err, true, sym, ap, ◌∙◌}
use Rattle.std.specs.List.{AllByRecursion}
use Rattle.std.proofs.lemmas.Bool.{cases_lt}
use Rattle.const_oid.specs.IdentifierOctets.{identifier_octets, IsIdentifier}
use Rattle.const_oid.proofs.BoundedLaws.{widen}
use Rattle.der_core_head.specs.Leaves.{Leaf, LeafValue, IsLeafValue, identifier}
use Rattle.der_core_head.specs.Shapes.{Shape, Content, Body, tagged, any, either, optional, defaulted, nothing, leaf, nested, done, field, only, many, exactly, few, in_order, Value, ContentValue, BodyValue, IsValid, IsContent, IsBody, Spells, octets_of}
use Rattle.der_core_head.specs.Bounds.{IsLeafOf, IsOf, IsContentOf, IsBodyOf, IsLeafUnder, IsValidUnder, IsContentUnder, IsBodyUnder, leaf_identifiers, identifiers_of, content_identifiers, body_identifiers, AreBelow, HoldsLarge}
use Rattle.der_core_head.specs.declared.error.ErrorKind.{ErrorKind}
use Rattle.der_core_head.specs.Octets.{IsOctets}
use Rattle.der_core_head.specs.Heads.{Fits}
use Rattle.der_core_head.specs.Spelling.{is_apart, is_element, are_enough}
use Rattle.der_core_head.specs.Grammar.{read, read_whole}
use Rattle.der_core_head.proofs.OneEncoding.{bytes_are, sound, is_spelled, whole_again}
use Rattle.der_core_head.proofs.Complete.{complete_element}
use Rattle.der_core_head.proofs.Results.{each_alike}

-- From one bound to another

abbrev IsBelow : ℕ → List ℕ → Type 0
IsBelow bound arcs = AllByRecursion (λ n. n < bound) arcs

pub front_all : {P : Type 0} (F : P → Type 0) (a b : List P) → AllByRecursion F (a ++ b) → AllByRecursion F a
front_all F [] b h = tt
front_all F (x ∷ a) b h = (h.0, front_all F a b h.1)

pub back_all : {P : Type 0} (F : P → Type 0) (a b : List P) → AllByRecursion F (a ++ b) → AllByRecursion F b
back_all F [] b h = h
back_all F (x ∷ a) b h = back_all F a b h.1

-- Each of these identifiers that is one under the first bound is one under the second.
abbrev Carry : ℕ → ℕ → List (List ℕ) → Type 0
Carry old new ids = AllByRecursion (λ arcs. IsIdentifier old arcs → IsIdentifier new arcs) ids

each_carried : {P : Type 0} (F G : P → Type 0) (ids : P → List (List ℕ)) (old new : ℕ) → ((x : P) → F x → Carry old new (ids x) → G x)
    → (xs : List P) → AllByRecursion F xs → Carry old new (flat_map ids xs) → AllByRecursion G xs
each_carried F G ids old new each [] h k = tt
each_carried F G ids old new each (x ∷ xs) h k =
    (each x h.0 (front_all _ (ids x) (flat_map ids xs) k), each_carried F G ids old new each xs h.1 (back_all _ (ids x) (flat_map ids xs) k))

leaf_carried : (old new : ℕ) (l : Leaf) (v : LeafValue l) → IsLeafUnder old l v → Carry old new (leaf_identifiers l v) → IsLeafUnder new l v
leaf_carried old new (identifier own capacity) v h k = (k.0 h.0, h.1)
leaf_carried old new l v h k = h

mutual
  unfolding IsValidUnder identifiers_of

  carried : (old new : ℕ) (s : Shape) (v : Value s) → IsValidUnder old s v → Carry old new (identifiers_of s v) → IsValidUnder new s v
  carried old new (tagged t c) v h k = (content_carried old new c v h.0 k, h.1, h.2)
  carried old new any v h k = h
  carried old new (either a b) (inl v) h k = carried old new a v h k
  carried old new (either a b) (inr v) h k = carried old new b v h k
  carried old new (optional s) None h k = tt
  carried old new (optional s) (Some v) h k = carried old new s v h k
  carried old new (defaulted s d) v h k = carried old new s v h k
  carried old new nothing v h k = tt

  content_carried : (old new : ℕ) (c : Content) (v : ContentValue c) → IsContentUnder old c v → Carry old new (content_identifiers c v) → IsContentUnder new c v
  content_carried old new (leaf l) v h k = leaf_carried old new l v h k
  content_carried old new (nested b) v h k = body_carried old new b v h k

  body_carried : (old new : ℕ) (b : Body) (v : BodyValue b) → IsBodyUnder old b v → Carry old new (body_identifiers b v) → IsBodyUnder new b v
  body_carried old new done v h k = tt
  body_carried old new (field s b) v h k =
      (carried old new s v.0 h.0 (front_all _ (identifiers_of s v.0) (body_identifiers b v.1) k), body_carried old new b v.1 h.1 (back_all _ (identifiers_of s v.0) (body_identifiers b v.1) k))
  body_carried old new (only s) v h k = carried old new s v h k
  body_carried old new (many s) v h k = each_carried (λ x. IsValidUnder old s x) (λ x. IsValidUnder new s x) (λ x. identifiers_of s x) old new (λ x h k. carried old new s x h k) v h k
  body_carried old new (exactly n s) v h k = (each_carried (λ x. IsValidUnder old s x) (λ x. IsValidUnder new s x) (λ x. identifiers_of s x) old new (λ x h k. carried old new s x h k) v h.0 k, h.1)
  body_carried old new (few n s) v h k = (each_carried (λ x. IsValidUnder old s x) (λ x. IsValidUnder new s x) (λ x. identifiers_of s x) old new (λ x h k. carried old new s x h k) v h.0 k, h.1)
  body_carried old new (in_order how s) v h k = (each_carried (λ x. IsValidUnder old s x) (λ x. IsValidUnder new s x) (λ x. identifiers_of s x) old new (λ x h k. carried old new s x h k) v h.0 k, h.1)

-- An identifier under one bound is one under a larger bound.
all_of : {P : Type 0} (F : P → Type 0) → ((x : P) → F x) → (xs : List P) → AllByRecursion F xs
all_of F each [] = tt
all_of F each (x ∷ xs) = (each x, all_of F each xs)

pub wider : (small large : ℕ) → small ≤ large → (s : Shape) (v : Value s) → IsValidUnder small s v → IsValidUnder large s v
wider small large le s v h = carried small large s v h (all_of _ (widen small large le) (identifiers_of s v))

-- An identifier is one under a smaller bound if its arcs are below that bound.
arcs_narrow : (small large : ℕ) (arcs : List ℕ) → IsBelow small arcs → IsIdentifier large arcs → IsIdentifier small arcs
unfolding IsIdentifier
arcs_narrow small large (a ∷ b ∷ arcs) k h = (h.0, h.1, k.1.1)
arcs_narrow small large _ k h = absurd h

pub narrow : (small large : ℕ) (s : Shape) (v : Value s) → IsValidUnder large s v → AreBelow small (identifiers_of s v) → IsValidUnder small s v
narrow small large s v h k = carried large small s v h (each_alike (IsBelow small) _ (arcs_narrow small large) (identifiers_of s v) k)

-- Large arcs

all_or_large : (bound : ℕ) (xs : List ℕ) → IsBelow bound xs ⊎ ((n : ℕ) × Contains xs n × (bound ≤ n))
all_or_large bound [] = inl tt
all_or_large bound (x ∷ xs) = by (cases_lt x bound) (all_or_large bound xs)
  where
    by : (x < bound) ⊎ (bound ≤ x) → IsBelow bound xs ⊎ ((n : ℕ) × Contains xs n × (bound ≤ n)) → IsBelow bound (x ∷ xs) ⊎ ((n : ℕ) × Contains (x ∷ xs) n × (bound ≤ n))
    by (inr l) _ = inr (x, (zero, omega arith, refl), l)
    by (inl l) (inl all) = inl (l, all)
    by (inl l) (inr p) = inr (p.0, (suc p.1.0, omega (arith, p.1.1), p.1.2), p.2)

pub below_or_large : (bound : ℕ) (ids : List (List ℕ)) → AreBelow bound ids ⊎ HoldsLarge bound ids
below_or_large bound [] = inl tt
below_or_large bound (arcs ∷ ids) = by (all_or_large bound arcs) (below_or_large bound ids)
  where
    by : IsBelow bound arcs ⊎ ((n : ℕ) × Contains arcs n × (bound ≤ n)) → AreBelow bound ids ⊎ HoldsLarge bound ids → AreBelow bound (arcs ∷ ids) ⊎ HoldsLarge bound (arcs ∷ ids)
    by (inr p) _ = inr (arcs, p.0, (zero, omega arith, refl), p.1, p.2)
    by (inl l) (inl all) = inl (l, all)
    by (inl l) (inr p) = inr (p.0, p.1, (suc p.2.0, omega (arith, p.2.1), p.2.2), p.3, p.4)

-- A value that is valid under one bound and not under another has an arc that isn't below the other
-- bound.
pub new_holds_large : (small large : ℕ) (s : Shape) (v : Value s) → IsValidUnder large s v → (IsValidUnder small s v → ⊥) → HoldsLarge small (identifiers_of s v)
new_holds_large small large s v h n = by (below_or_large small (identifiers_of s v))
  where
    by : AreBelow small (identifiers_of s v) ⊎ HoldsLarge small (identifiers_of s v) → HoldsLarge small (identifiers_of s v)
    by (inl k) = absurd (n (narrow small large s v h k))
    by (inr p) = p

-- The bound of the shape itself

each_own : {P : Type 0} (F G : P → Type 0) → ((x : P) → F x ↔ G x) → (xs : List P) → AllByRecursion F xs ↔ AllByRecursion G xs
each_own F G each xs = (each_alike F G (λ x. (each x).0) xs, each_alike G F (λ x. (each x).1) xs)

alike : {X : Type 0} → X ↔ X
alike {X} = (λ h. h, λ h. h)

beside : {F G X Y : Type 0} → F ↔ G → X ↔ Y → (F × X) ↔ (G × Y)
beside p q = (λ h. (p.0 h.0, q.0 h.1), λ h. (p.1 h.0, q.1 h.1))

leaf_own : (bound : ℕ) (l : Leaf) (v : LeafValue l) → IsLeafOf bound l → IsLeafValue l v ↔ IsLeafUnder bound l v
leaf_own bound (identifier own capacity) v e = subst (λ b. (IsIdentifier own v × (length (identifier_octets v) ≤ capacity)) ↔ (IsIdentifier b v × (length (identifier_octets v) ≤ capacity))) e alike
leaf_own bound l v e = alike

mutual
  unfolding IsValid IsValidUnder

  pub own : (bound : ℕ) (s : Shape) (v : Value s) → IsOf bound s → IsValid s v ↔ IsValidUnder bound s v
  own bound (tagged t c) v e = let p = content_own bound c v e in (λ h. (p.0 h.0, h.1, h.2), λ h. (p.1 h.0, h.1, h.2))
  own bound any v e = alike
  own bound (either a b) (inl v) e = own bound a v e.0
  own bound (either a b) (inr v) e = own bound b v e.1
  own bound (optional s) None e = alike
  own bound (optional s) (Some v) e = own bound s v e
  own bound (defaulted s d) v e = own bound s v e
  own bound nothing v e = alike

  content_own : (bound : ℕ) (c : Content) (v : ContentValue c) → IsContentOf bound c → IsContent c v ↔ IsContentUnder bound c v
  content_own bound (leaf l) v e = leaf_own bound l v e
  content_own bound (nested b) v e = body_own bound b v e

  body_own : (bound : ℕ) (b : Body) (v : BodyValue b) → IsBodyOf bound b → IsBody b v ↔ IsBodyUnder bound b v
  body_own bound done v e = alike
  body_own bound (field s b) v e = beside (own bound s v.0 e.0) (body_own bound b v.1 e.1)
  body_own bound (only s) v e = own bound s v e
  body_own bound (many s) v e = each_own (λ x. IsValid s x) (λ x. IsValidUnder bound s x) (λ x. own bound s x e) v
  body_own bound (exactly n s) v e = beside (each_own (λ x. IsValid s x) (λ x. IsValidUnder bound s x) (λ x. own bound s x e) v) alike
  body_own bound (few n s) v e = beside (each_own (λ x. IsValid s x) (λ x. IsValidUnder bound s x) (λ x. own bound s x e) v) alike
  body_own bound (in_order how s) v e = beside (each_own (λ x. IsValid s x) (λ x. IsValidUnder bound s x) (λ x. own bound s x e) v) alike

-- The arcs of a valid value are below the bound, if the bound is at least 40

pub both_all : {P : Type 0} (F : P → Type 0) (a b : List P) → AllByRecursion F a → AllByRecursion F b → AllByRecursion F (a ++ b)
both_all F [] b h k = k
both_all F (x ∷ a) b h k = (h.0, both_all F a b h.1 k)

each_below : {P : Type 0} (F : P → Type 0) (ids : P → List (List ℕ)) (bound : ℕ) → ((x : P) → F x → AreBelow bound (ids x)) → (xs : List P) → AllByRecursion F xs → AreBelow bound (flat_map ids xs)
each_below F ids bound each [] h = tt
each_below F ids bound each (x ∷ xs) h = both_all (IsBelow bound) (ids x) (flat_map ids xs) (each x h.0) (each_below F ids bound each xs h.1)

arcs_below : (bound : ℕ) → 40 ≤ bound → (arcs : List ℕ) → IsIdentifier bound arcs → IsBelow bound arcs
unfolding IsIdentifier
arcs_below bound le (a ∷ b ∷ arcs) h = (omega (arith, le, h.0), (omega (arith, le, h.1), h.2))
arcs_below bound le _ h = absurd h

leaf_below : (bound : ℕ) → 40 ≤ bound → (l : Leaf) (v : LeafValue l) → IsLeafUnder bound l v → AreBelow bound (leaf_identifiers l v)
leaf_below bound le (identifier _ _) v h = (arcs_below bound le v h.0, tt)
leaf_below bound le l v h = tt

mutual
  unfolding IsValidUnder identifiers_of

  pub below : (bound : ℕ) → 40 ≤ bound → (s : Shape) (v : Value s) → IsValidUnder bound s v → AreBelow bound (identifiers_of s v)
  below bound le (tagged t c) v h = content_below bound le c v h.0
  below bound le any v h = tt
  below bound le (either a b) (inl v) h = below bound le a v h
  below bound le (either a b) (inr v) h = below bound le b v h
  below bound le (optional s) None h = tt
  below bound le (optional s) (Some v) h = below bound le s v h
  below bound le (defaulted s d) v h = below bound le s v h
  below bound le nothing v h = tt

  content_below : (bound : ℕ) → 40 ≤ bound → (c : Content) (v : ContentValue c) → IsContentUnder bound c v → AreBelow bound (content_identifiers c v)
  content_below bound le (leaf l) v h = leaf_below bound le l v h
  content_below bound le (nested b) v h = body_below bound le b v h

  body_below : (bound : ℕ) → 40 ≤ bound → (b : Body) (v : BodyValue b) → IsBodyUnder bound b v → AreBelow bound (body_identifiers b v)
  body_below bound le done v h = tt
  body_below bound le (field s b) v h = both_all (IsBelow bound) (identifiers_of s v.0) (body_identifiers b v.1) (below bound le s v.0 h.0) (body_below bound le b v.1 h.1)
  body_below bound le (only s) v h = below bound le s v h
  body_below bound le (many s) v h = each_below (λ x. IsValidUnder bound s x) (λ x. identifiers_of s x) bound (λ x k. below bound le s x k) v h
  body_below bound le (exactly n s) v h = each_below (λ x. IsValidUnder bound s x) (λ x. identifiers_of s x) bound (λ x k. below bound le s x k) v h.0
  body_below bound le (few n s) v h = each_below (λ x. IsValidUnder bound s x) (λ x. identifiers_of s x) bound (λ x k. below bound le s x k) v h.0
  body_below bound le (in_order how s) v h = each_below (λ x. IsValidUnder bound s x) (λ x. identifiers_of s x) bound (λ x k. below bound le s x k) v h.0

pub ruleset large_arcs = (narrow, below, new_holds_large)

-- Shapes that differ only in their bound

-- A shape for each bound, whose abstract values and encodings are those of a base shape. If the
-- shape is known, `at` is the identity.
pub record Family (base : Shape) (S : ℕ → Shape) : Type 0 where
  pub at : (b : ℕ) → Value base → Value (S b)
  pub judged : (b : ℕ) (v : Value base) → IsValid (S b) (at b v) ↔ IsValidUnder b base v
  pub spelled : (b : ℕ) (v : Value base) → octets_of (S b) (at b v) ≡ octets_of base v
  pub element : (b : ℕ) → is_element (S b) ≡ true
  pub apart : (b : ℕ) → is_apart (S b) ≡ true
  pub enough : (b : ℕ) → are_enough (S b) 64 ≡ true

pub same_octets : (base : Shape) (S : ℕ → Shape) (f : Family base S) (small large : ℕ) (v : Value base) → octets_of (S small) (f.at small v) ≡ octets_of (S large) (f.at large v)
same_octets base S f small large v = f.spelled small v ∙ sym (f.spelled large v)

pub valid_wider : (base : Shape) (S : ℕ → Shape) (f : Family base S) (small large : ℕ) (v : Value base) → small ≤ large → IsValid (S small) (f.at small v) → IsValid (S large) (f.at large v)
valid_wider base S f small large v le h = (f.judged large v).1 (wider small large le base v ((f.judged small v).0 h))

pub valid_narrow : (base : Shape) (S : ℕ → Shape) (f : Family base S) (small large : ℕ) (v : Value base) → IsValid (S large) (f.at large v) → AreBelow small (identifiers_of base v) → IsValid (S small) (f.at small v)
valid_narrow base S f small large v h k = (f.judged small v).1 (narrow small large base v ((f.judged large v).0 h) k)

pub new_valid : (base : Shape) (S : ℕ → Shape) (f : Family base S) (small large : ℕ) (v : Value base) → IsValid (S large) (f.at large v) → (IsValid (S small) (f.at small v) → ⊥) → HoldsLarge small (identifiers_of base v)
new_valid base S f small large v h n = new_holds_large small large base v ((f.judged large v).0 h) (λ k. n ((f.judged small v).1 k))

-- The encoding of a value under one bound is its encoding under a larger bound, and under a smaller
-- bound if its arcs are below that bound.
pub spelled_wider : (base : Shape) (S : ℕ → Shape) (f : Family base S) (small large : ℕ) (v : Value base) (w : List ℕ) → small ≤ large → Spells (S small) (f.at small v) w → Spells (S large) (f.at large v) w
spelled_wider base S f small large v w le h = record { valid = valid_wider base S f small large v le h.valid; octets = h.octets ∙ same_octets base S f small large v }

pub spelled_narrow : (base : Shape) (S : ℕ → Shape) (f : Family base S) (small large : ℕ) (v : Value base) (w : List ℕ) → Spells (S large) (f.at large v) w → AreBelow small (identifiers_of base v) → Spells (S small) (f.at small v) w
spelled_narrow base S f small large v w h k = record { valid = valid_narrow base S f small large v h.valid k; octets = h.octets ∙ same_octets base S f large small v }

pub new_spelled : (base : Shape) (S : ℕ → Shape) (f : Family base S) (small large : ℕ) (v : Value base) (w : List ℕ) → Spells (S large) (f.at large v) w → (Spells (S small) (f.at small v) w → ⊥) → HoldsLarge small (identifiers_of base v)
new_spelled base S f small large v w h n = new_valid base S f small large v h.valid (λ k. n (record { valid = k; octets = h.octets ∙ same_octets base S f large small v }))

-- The converse, if the smaller bound is at least 40.
pub spelled_exactly : (base : Shape) (S : ℕ → Shape) (f : Family base S) (small large : ℕ) (v : Value base) (w : List ℕ) → 40 ≤ small → small ≤ large
    → Spells (S small) (f.at small v) w ↔ (Spells (S large) (f.at large v) w × AreBelow small (identifiers_of base v))
spelled_exactly base S f small large v w root le =
    (λ h. (spelled_wider base S f small large v w le h, below small root base v ((f.judged small v).0 h.valid)), λ p. spelled_narrow base S f small large v w p.0 p.1)

-- Decoding all bytes

whole_spelled : (s : Shape) (v : Value s) (w : List ℕ) → is_apart s ≡ true → IsOctets w → read_whole s w ≡ Ok (v, []) → Spells s v w
whole_spelled s v w a o e = is_spelled s (λ v. v) w (Ok v) a (bytes_are w o) e

pub whole_wider : (base : Shape) (S : ℕ → Shape) (f : Family base S) (small large : ℕ) (v : Value base) (w : List ℕ) → small ≤ large → IsOctets w
    → read_whole (S small) w ≡ Ok (f.at small v, []) → read_whole (S large) w ≡ Ok (f.at large v, [])
whole_wider base S f small large v w le o e =
    whole_again (S large) (f.at large v) w (f.apart large) (f.enough large) (spelled_wider base S f small large v w le (whole_spelled (S small) (f.at small v) w (f.apart small) o e))

pub whole_new : (base : Shape) (S : ℕ → Shape) (f : Family base S) (small large : ℕ) (v : Value base) (w : List ℕ) (e : ErrorKind) → IsOctets w
    → read_whole (S large) w ≡ Ok (f.at large v, []) → read_whole (S small) w ≡ Err e → HoldsLarge small (identifiers_of base v)
whole_new base S f small large v w e o read refused =
    new_spelled base S f small large v w (whole_spelled (S large) (f.at large v) w (f.apart large) o read)
    (λ h. absurd (cc (whole_again (S small) (f.at small v) w (f.apart small) (f.enough small) h, refused)))

-- Decoding a prefix

pub front_wider : (base : Shape) (S : ℕ → Shape) (f : Family base S) (small large : ℕ) (v : Value base) (w r : List ℕ) → small ≤ large → IsOctets w → Fits w
    → read (S small) 64 w ≡ Ok (f.at small v, r) → read (S large) 64 w ≡ Ok (f.at large v, r)
front_wider base S f small large v w r le o fits e =
    let s = sound (S small) 64 w (f.at small v) r (f.apart small) (bytes_are w o) fits e in
    ap (read (S large) 64) (s.1 ∙ ap (λ (b : List ℕ). b ++ r) (same_octets base S f small large v))
    ∙ complete_element (S large) 64 (f.at large v) r (f.element large) (f.apart large) (f.enough large) (valid_wider base S f small large v le s.0)

pub front_new : (base : Shape) (S : ℕ → Shape) (f : Family base S) (small large : ℕ) (v : Value base) (w r : List ℕ) (e : ErrorKind) → IsOctets w → Fits w
    → read (S large) 64 w ≡ Ok (f.at large v, r) → read (S small) 64 w ≡ Err e → HoldsLarge small (identifiers_of base v)
front_new base S f small large v w r e o fits read_large refused =
    let s = sound (S large) 64 w (f.at large v) r (f.apart large) (bytes_are w o) fits read_large in
    new_valid base S f small large v s.0
    (λ h. absurd (cc (
      ap (read (S small) 64) (s.1 ∙ ap (λ (b : List ℕ). b ++ r) (same_octets base S f large small v))
          ∙ complete_element (S small) 64 (f.at small v) r (f.element small) (f.apart small) (f.enough small) h,
      refused,
    )))
