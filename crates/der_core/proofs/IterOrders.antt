-- Lemmas about comparing the values of two iterators, and about inserting a value into a list.
use Rattle.std.proofs.Common.{◌≡◌, ℕ, zero, suc, true, false, List, [], ◌∷◌, drop, Option, Some, None, Result, Ok, Err, refl, sym, ap, subst, ◌∙◌, arith, slice_get, Ordering, Less, Equal, Greater, map-id, length, inl, inr, ◌++◌, take, Bool, ◌||◌, if◌then◌else◌}
use Rattle.std.specs.Iterator.{AlwaysYields}
use Rattle.std.specs.Ordering.{ordering_then, is_ne, ordering_reverse}
use Rattle.std.specs.Slice.Iter.{iter_rest}
use Rattle.std.proofs.iter.Yields.{fronts}
use Rattle.std.proofs.lemmas.Bool.Decides.{nat_tests}
use Rattle.std.specs.Fn.{Mut, Called}
use Rattle.std.specs.Iterator.Adapters.{map_steps, map_source, map_callee}
use Rattle.std.proofs.lemmas.Iterator.{YieldsList, YieldsList-from_slice, YieldsList-from_map_by}
use Rattle.der_core_coding.specs.CoreHead.declared.error.Error.{Error}
use Rattle.der_core_coding.specs.CoreHead.declared.error.ErrorKind.TheVariants as kinds
use Rattle.der_core_coding.specs.CoreHead.Octets.{◌>>=◌}
use Rattle.der_core_coding.specs.CoreHead.Heads.{Fits}
use Rattle.der_core_head.proofs.Results.{bind_ok}
use Rattle.der_core_head.proofs.Written.{counted, count_ok, writes_fitting}
use Rattle.der_core_coding.specs.CoreHead.Shapes.{Shape, many, Value, body_octets, IsValid, IsBody, octets_of, AllRising, Step}
use Rattle.der_core_coding.specs.CoreHead.Grammar.{plain_list, plain_option}
use Rattle.der_core_coding.specs.CoreHead.Spelling.{is_apart, is_body_apart, is_element}
use Rattle.der_core_coding.specs.CoreHead.Writing.{Out, size, size_body, sum_len, many_len, all_follow, write, write_many}
use Rattle.der_core.specs.Orders.{encodings_cmp, bodies_cmp, Overflows, octets_cmp}
use Rattle.der_core.proofs.OrderLaws.{first_decides, others_decide}
use Rattle.der_core.proofs.Sizes.{size_only, sum_only, over_or, longer}
use Rattle.der_core.proofs.ShapeOrders.{elements_cmp}
use Rattle.std.proofs.lemmas.Cmp.{nat_list_cmp_total}
use Rattle.der_core.specs.Placed.{is_equal, is_less, put_in_front, placed, stands_among}
use Rattle.std.specs.Prelude.{IfSome}
use Rattle.std.specs.List.{AllByRecursion}

-- The order of the values that two iterators give

-- The remaining elements at an index

pub next_left : {A : Type 0} (xs : List A) (n : ℕ) (x : A) (rest : List A) → drop n xs ≡ x ∷ rest → (slice_get xs n ≡ Some x) × (rest ≡ drop (suc n) xs)
next_left [] zero x rest e = absurd cc
next_left [] (suc n) x rest e = absurd cc
next_left (y ∷ xs) zero x rest e = (cc, cc)
next_left (y ∷ xs) (suc n) x rest e = next_left xs n x rest e

module _ {S A : Type 0} (steps : S → Option A → S → Type 0) (s : Shape) (f : A → Value s) where
  -- A call returned the first of the values that an iterator always yields.
  pub record Next (zs : List (Value s)) (x : A) (t : S) : Type 0 where
    pub rest : List (Value s)
    pub is : zs ≡ f x ∷ rest
    pub more : AlwaysYields steps f t rest

  next_given : (a : S) (zs : List (Value s)) (x : A) (t : S) → AlwaysYields steps f a zs → steps a (Some x) t → Next zs x t
  next_given a [] x t h e = absurd (h x t e)
  next_given a (z ∷ zs) x t h e = let k = h.1 x t e in record { rest = zs; is = ap (λ y. y ∷ zs) (sym k.0); more = k.1 }

  none_given : (a : S) (zs : List (Value s)) (t : S) → AlwaysYields steps f a zs → steps a None t → zs ≡ []
  none_given a [] t h e = refl
  none_given a (z ∷ zs) t h e = absurd (h.0 t e)

  -- The remaining values of two lists decide their order.
  abbrev pub Decides : (xs ys more others : List (Value s)) → Type 0
  Decides xs ys more others = is_body_apart (many s) ≡ true → bodies_cmp (many s) xs ys ≡ bodies_cmp (many s) more others

  -- The remaining values are valid if all values are.
  abbrev pub StillValid : (xs more : List (Value s)) → Type 0
  StillValid xs more = IsBody (many s) xs → IsBody (many s) more

  -- Values that exceed the greatest length, whatever length comes before them.
  abbrev pub TooLong : List (Value s) → Type 0
  TooLong xs = (n : ℕ) → many_len (size s) xs n ≡ Err kinds.Overflow

  more_long : (x : Value s) (xs : List (Value s)) → TooLong xs → TooLong (x ∷ xs)
  more_long x xs h n = over_or (size s x) (λ m. sum_len n m >>= many_len (size s) xs) (size_only s x) (λ m. over_or (sum_len n m) (many_len (size s) xs) (sum_only n m) h)

  -- The iterators yield the remaining values of the two lists.
  pub record At (xs ys : List (Value s)) (a b : S) : Type 0 where
    pub more : List (Value s)
    pub others : List (Value s)
    pub first : AlwaysYields steps f a more
    pub second : AlwaysYields steps f b others
    pub decides : Decides xs ys more others
    pub valid : StillValid xs more
    pub other_valid : StillValid ys others
    pub long : TooLong more → TooLong xs
    pub other_long : TooLong others → TooLong ys

  pub at_start : (xs ys : List (Value s)) (a b : S) → AlwaysYields steps f a xs → AlwaysYields steps f b ys → At xs ys a b
  at_start xs ys a b h k = record {
    more = xs;
    others = ys;
    first = h;
    second = k;
    decides = λ apart. refl;
    valid = λ p. p;
    other_valid = λ q. q;
    long = λ l. l;
    other_long = λ l. l;
  }

  first_cmp : (x y : Value s) (xs ys : List (Value s)) → is_body_apart (many s) ≡ true
      → bodies_cmp (many s) (x ∷ xs) (y ∷ ys) ≡ ordering_then (encodings_cmp s x y) (bodies_cmp (many s) xs ys)
  unfolding body_octets
  first_cmp x y xs ys apart =
      let e : is_element s ≡ true = grind (arith, nat_tests) in
      elements_cmp s (x ∷ xs) (y ∷ ys) e ∙ ap (ordering_then (encodings_cmp s x y)) (sym (elements_cmp s xs ys e))

  -- Both iterators returned a value.
  record Both (xs ys : List (Value s)) (c d : S) (x y : A) : Type 0 where
    pub more : List (Value s)
    pub others : List (Value s)
    pub first : AlwaysYields steps f c more
    pub second : AlwaysYields steps f d others
    pub decides : Decides xs ys (f x ∷ more) (f y ∷ others)
    pub valid : StillValid xs (f x ∷ more)
    pub other_valid : StillValid ys (f y ∷ others)
    pub long : TooLong (f x ∷ more) → TooLong xs
    pub other_long : TooLong (f y ∷ others) → TooLong ys

  both : (xs ys : List (Value s)) (a b c d : S) (x y : A) → At xs ys a b → steps a (Some x) c → steps b (Some y) d → Both xs ys c d x y
  both xs ys a b c d x y k i j =
      let p = next_given a k.more x c k.first i in
      let q = next_given b k.others y d k.second j in
      record {
        more = p.rest;
        others = q.rest;
        first = p.more;
        second = q.more;
        decides = rw (p.is, q.is) at k.decides;
        valid = rw p.is at k.valid;
        other_valid = rw q.is at k.other_valid;
        long = rw p.is at k.long;
        other_long = rw q.is at k.other_long;
      }

  -- A result for two values is their order, and two valid values have a result.
  abbrev pub IsOrder : A → A → Result Ordering Error → Type 0
  IsOrder x y r = is_apart s ≡ true → IsValid s (f x) → IsValid s (f y) → r ≡ Ok (encodings_cmp s (f x) (f y))

  abbrev pub IsExact : A → A → Ordering → Type 0
  IsExact x y o = is_apart s ≡ true → o ≡ encodings_cmp s (f x) (f y)

  pub at_next : (xs ys : List (Value s)) (a b c d : S) (x y : A) (o : Ordering) → At xs ys a b → steps a (Some x) c → steps b (Some y) d → IsExact x y o → is_ne o ≡ false → At xs ys c d
  unfolding IsBody
  at_next xs ys a b c d x y o k i j is same =
      let n = both xs ys a b c d x y k i j in
      record {
        more = n.more;
        others = n.others;
        first = n.first;
        second = n.second;
        decides = λ apart.
            let e : o ≡ encodings_cmp s (f x) (f y) = is (grind (arith, nat_tests)) in
            n.decides apart ∙ first_cmp (f x) (f y) n.more n.others apart ∙ rw (← e) (sym (others_decide o (bodies_cmp (many s) n.more n.others) same));
        valid = λ p. (n.valid p).1;
        other_valid = λ q. (n.other_valid q).1;
        long = λ h. n.long (more_long (f x) n.more h);
        other_long = λ h. n.other_long (more_long (f y) n.others h);
      }

  pub at_decided : (xs ys : List (Value s)) (a b c d : S) (x y : A) (o : Ordering) → At xs ys a b → steps a (Some x) c → steps b (Some y) d → IsExact x y o → is_ne o ≡ true
      → is_body_apart (many s) ≡ true → o ≡ bodies_cmp (many s) xs ys
  at_decided xs ys a b c d x y o k i j is differ apart =
      let n = both xs ys a b c d x y k i j in
      let e : o ≡ encodings_cmp s (f x) (f y) = is (grind (arith, nat_tests)) in
      sym (n.decides apart ∙ first_cmp (f x) (f y) n.more n.others apart ∙ rw (← e) (sym (first_decides o (bodies_cmp (many s) n.more n.others) differ)))

  -- If a comparison fails, not all values are valid.
  pub at_not_refused : (xs ys : List (Value s)) (a b c d : S) (x y : A) (e : Error) → At xs ys a b → steps a (Some x) c → steps b (Some y) d → IsOrder x y (Err e)
      → is_body_apart (many s) ≡ true → IsBody (many s) xs → IsBody (many s) ys → ⊥
  unfolding IsBody
  at_not_refused xs ys a b c d x y e k i j is apart p q =
      let n = both xs ys a b c d x y k i j in
      let told = is (grind (arith, nat_tests)) (n.valid p).0 (n.other_valid q).0 in
      absurd cc

  pub at_long : (xs ys : List (Value s)) (a b c d : S) (x y : A) (e : Error) → At xs ys a b → steps a (Some x) c → steps b (Some y) d
      → Overflows e (size s (f x)) (size s (f y)) → Overflows e (size_body (many s) xs) (size_body (many s) ys)
  at_long xs ys a b c d x y e k i j = let n = both xs ys a b c d x y k i j in longer e (λ o. n.long (λ m. rw o refl) 0) (λ o. n.other_long (λ m. rw o refl) 0)

  pub at_second_ended : (xs ys : List (Value s)) (a b c d : S) (x : A) → At xs ys a b → steps a (Some x) c → steps b None d
      → is_body_apart (many s) ≡ true → Greater ≡ bodies_cmp (many s) xs ys
  unfolding body_octets
  at_second_ended xs ys a b c d x k i j apart =
      let p = next_given a k.more x c k.first i in
      let left = rw (p.is, none_given b k.others d k.second j) at (k.decides apart) in
      sym (left ∙ elements_cmp s (f x ∷ p.rest) [] (grind (arith, nat_tests)))

  pub at_first_ended : (xs ys : List (Value s)) (a b c d : S) (y : A) → At xs ys a b → steps a None c → steps b (Some y) d
      → is_body_apart (many s) ≡ true → Less ≡ bodies_cmp (many s) xs ys
  unfolding body_octets
  at_first_ended xs ys a b c d y k i j apart =
      let q = next_given b k.others y d k.second j in
      let left = rw (none_given a k.more c k.first i, q.is) at (k.decides apart) in
      sym (left ∙ elements_cmp s [] (f y ∷ q.rest) (grind (arith, nat_tests)))

  pub at_both_ended : (xs ys : List (Value s)) (a b c d : S) → At xs ys a b → steps a None c → steps b None d
      → is_body_apart (many s) ≡ true → Equal ≡ bodies_cmp (many s) xs ys
  unfolding body_octets
  at_both_ended xs ys a b c d k i j apart =
      let left = rw (none_given a k.more c k.first i, none_given b k.others d k.second j) at (k.decides apart) in
      sym left

-- Views of views of the items

pub seen_further : {S A B C : Type 0} (steps : S → Option A → S → Type 0) (v : A → B) (f : B → C) (s : S) (ys : List B) → AlwaysYields steps v s ys → AlwaysYields steps (λ x. f (v x)) s (plain_list f ys)
seen_further steps v f s [] h = h
seen_further steps v f s (y ∷ ys) h = (h.0, λ x t e. let k = h.1 x t e in (ap f k.0, seen_further steps v f t ys k.1))

-- The elements of a slice.
pub slice_lends : {A B : Type 0} (f : A → B) (s : _) (xs : List A) → iter_rest s ≡ xs → AlwaysYields fronts (λ r. f r.now) s (plain_list f xs)
slice_lends f s xs e = seen_further fronts (λ r. r.now) f s xs (YieldsList-from_slice {s = s} xs e).runs

-- Mapped items have the same view, one after another.
pub lent_further : {S A R B F : Type 0} {steps : S → Option A → S → Type 0} {v : A → B} {xs : List B} (g : Mut F (A × Unit {0}) R) (w : R → B) {f : F} {s : _} → YieldsList steps v (map_source s) xs → map_callee s ≡ f
    → ((x : A) (r : R) (q : F) → Called g f (x, tt) r q → (q ≡ f) × (w r ≡ v x)) → AlwaysYields (map_steps steps g) w s xs
lent_further {steps = steps} {xs = xs} g w {s = s} items callee step = subst (AlwaysYields (map_steps steps g) w s) (map-id xs) (YieldsList-from_map_by g w (λ b. b) items callee step).runs

-- Inserting a value with a loop that looks for its position, and results for equal lists

-- The value goes after the first elements, of which there are this many, and among the remaining
-- ones.
abbrev pub IsPast : {A P : Type 0} → (A → P) → (P → P → Bool) → P → List A → ℕ → Type 0
IsPast f g x xs i = put_in_front g x (plain_list f xs) ≡ plain_list f (take i xs) ++ put_in_front g x (plain_list f (drop i xs))

-- Inserting a value into a set in ascending order, if no member has its encoding

turned : (a b : List ℕ) → octets_cmp a b ≡ Greater → octets_cmp b a ≡ Less
turned a b e = nat_list_cmp_total.antisymm b a ∙ ap ordering_reverse e

abbrev Rises : (s : Shape) → List (Value s) → Type 0
Rises s vs = AllRising (octets_of s) vs

-- The value goes after the first member, which is less.
step : (s : Shape) (v u w : Value s) (ws : List (Value s)) (o : Ordering) → encodings_cmp s v w ≡ o → encodings_cmp s u v ≡ Less → Rises s (u ∷ w ∷ ws) → (is_equal o || stands_among s v ws) ≡ false
    → (encodings_cmp s w v ≡ Less → stands_among s v ws ≡ false → Rises s (w ∷ placed s v ws)) → Rises s (u ∷ (if is_less o then v ∷ w ∷ ws else w ∷ placed s v ws))
step s v u w ws Less e less rises none behind = (less, (e, rises.1))
step s v u w ws Equal e less rises none behind = absurd cc
step s v u w ws Greater e less rises none behind = (rises.0, behind (turned (octets_of s v) (octets_of s w) e) none)

rises_behind : (s : Shape) (v u : Value s) (ws : List (Value s)) → encodings_cmp s u v ≡ Less → Rises s (u ∷ ws) → stands_among s v ws ≡ false → Rises s (u ∷ placed s v ws)
rises_behind s v u [] less rises none = (less, tt)
rises_behind s v u (w ∷ ws) less rises none =
    step s v u w ws (encodings_cmp s v w) refl less rises none (λ lower left. rises_behind s v w ws lower rises.1 left)

first : (s : Shape) (v w : Value s) (ws : List (Value s)) (o : Ordering) → encodings_cmp s v w ≡ o → Rises s (w ∷ ws) → (is_equal o || stands_among s v ws) ≡ false
    → Rises s (if is_less o then v ∷ w ∷ ws else w ∷ placed s v ws)
first s v w ws Less e rises none = (e, rises)
first s v w ws Equal e rises none = absurd cc
first s v w ws Greater e rises none = rises_behind s v w ws (turned (octets_of s v) (octets_of s w) e) rises none

placed_rises : (s : Shape) (v : Value s) (ws : List (Value s)) → Rises s ws → stands_among s v ws ≡ false → Rises s (placed s v ws)
placed_rises s v [] rises none = tt
placed_rises s v (w ∷ ws) rises none = first s v w ws (encodings_cmp s v w) refl rises none

pub still_rises : (s : Shape) (v : Value s) (ws new : List (Value s)) → new ≡ placed s v ws → stands_among s v ws ≡ false → Rises s ws → Rises s new
still_rises s v ws new is none rises = subst (Rises s) (sym is) (placed_rises s v ws rises none)

-- The members of a set, compared one after another

-- The remaining members are compared as all members are.
pub record ComparedAlike {A : Type 0} (how : Step) (s : Shape) (f : A → Value s) (v : List A) (i : ℕ) (last : Option (Value s)) : Type 0 where
  pub fits : AllByRecursion (λ x. Fits (octets_of s x)) (plain_list f (drop i v))
  pub before : IfSome last (λ x. Fits (octets_of s x))
  pub order : all_follow how (octets_of s) (plain_option (octets_of s) last) (plain_list f (drop i v)) ≡ all_follow how (octets_of s) None (plain_list f v)

-- Comparing two values doesn't fail if their lengths are valid.
pub not_refused : (s : Shape) (v w : Value s) (e : Error) → Overflows e (size s v) (size s w) → Fits (octets_of s v) → Fits (octets_of s w) → ⊥
not_refused s v w e h p q =
    let first = counted s v ∙ count_ok (length (octets_of s v)) p in
    let second = counted s w ∙ count_ok (length (octets_of s w)) q in
    elim h.length [ inl o ↦ absurd (cc (first, o)) | inr o ↦ absurd (cc (second, o)) ]

-- The length of each written member is valid.
pub list_fits : (s : Shape) (v : List (Value s)) (o z : Out) → write_many (write s) v o ≡ Ok z → AllByRecursion (λ x. Fits (octets_of s x)) v
list_fits s [] o z e = tt
list_fits s (x ∷ xs) o z e =
    let first = bind_ok (write s x o) (write_many (write s) xs) z e in
    (writes_fitting s x o first.0 first.1, list_fits s xs first.0 z first.2)
