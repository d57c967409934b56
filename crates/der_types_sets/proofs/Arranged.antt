-- Lemmas about members in another order, in which equal members keep their order.
use Rattle.std.proofs.Common.{◌≡◌, ℕ, ◌+◌, cond, List, [], ◌∷◌, ◌++◌, refl, ap, sym, ◌∙◌, arith, IsPermutation, Ordering, Less, Equal, Greater, ◌-◌, ◌*◌, ◌<◌, ◌≤◌, zero, suc, Option, Some, None, Bool, true, false, length, get_or, set, take, drop, subst, ◌⊎◌, inl, inr, map, bytes_eq, not, ◌&&◌}
use Rattle.std.specs.Prelude.{◌≢◌, ⊤, flat_map, sum_by}
use Rattle.std.specs.Ordering.{is_eq, ordering_reverse, is_lt}
use Rattle.std.specs.Cmp.Lexicographic.{nat_list_cmp_total}
use Rattle.std.proofs.lemmas.Cmp.{tied_itself}
use Rattle.std.proofs.lemmas.List.Sums.{sum_by-cons}
use Rattle.std.proofs.lemmas.List.Sorted.{sum_by-IsPermutation, all_adjacent_more, All-permutation, IsPermutation-refl, IsPermutation-trans, IsPermutation-to_front, IsPermutation-insert, IsPermutation-append_left, IsPermutation-map, IsPermutation-keeps, length_permutation}
use Rattle.der_core.specs.Shapes.{Shape, Value, octets_of, IsValid}
use Rattle.der_core.specs.Orders.{octets_cmp}
use Rattle.der_core.proofs.OrderLaws.{octets_cmp-equal}
use Rattle.der_core.specs.Placed.{AllValid}
use Rattle.der_types_sets.specs.Sets.{Ascends, NotAbove, IsPlace, IsArranged, StopsBehind, StopsIn, TooLong, IsOutOfOrder}
use Rattle.std.specs.List.{filter, insert, swap, range_with_len}
use Rattle.std.specs.List.Sorted.{IsStableBy, ties}
use Rattle.std.proofs.lemmas.List.{append-nil, get_or-drop, get_or-append_right, length-drop, append_assoc, take-append-drop, drop_more, length-append, take_at, take_all, drop_at, drop-drop, length-take, length-map, get_or_default, get_or-map, get_or-set_other, take_more, map-append}
use Rattle.std.proofs.lemmas.List.Edits.{length-insert, length-swap, Swapped, swapped_from_swap}
use Rattle.std.proofs.Math.Seq.{take-append-add}
use Rattle.std.proofs.lemmas.Bool.{cases_eq}
use Rattle.std.proofs.lemmas.Bool.Decides.{nat_tests}
use Rattle.std.proofs.lemmas.Nat.{mul-le}
use Rattle.std.proofs.lemmas.List.Elements.{filter-append, filter_agree, All-take, All-from_recursion, recursion_from_All}
use Rattle.std.proofs.lemmas.List.FromFn.{length-range_with_len, get_or-range_with_len, fill_by_all}
use Rattle.std.proofs.lemmas.Map.Text.{is_eq-slice_cmp}
use Rattle.std.proofs.lemmas.Slice.Eq.{bytes_eq-Decides}
use Rattle.der_core.specs.ErrorTypes.Error.{Error}
use Rattle.der_core.specs.ErrorTypes.ErrorKind.TheVariants as kinds
use Rattle.der_core.proofs.BoundLaws.{front_all, back_all}
use Rattle.der_types_sets.specs.Rearranged.{member_at, members_at, AscendsAt, member_encoding, KeepsPlaces}
use Rattle.der_types_sets.proofs.SetSteps.{last_is, valid_at}

-- Members have one ascending order, up to their encodings

pub turned : (a b : List ℕ) (r : Ordering) → octets_cmp a b ≡ r → octets_cmp b a ≡ ordering_reverse r
turned a b r e = nat_list_cmp_total.antisymm b a ∙ ap ordering_reverse e

pub less_on : (a b c : List ℕ) (r : Ordering) → octets_cmp a b ≡ Less → octets_cmp b c ≡ r → r ≢ Greater → octets_cmp a c ≡ Less
less_on a b c Less e f not = nat_list_cmp_total.trans a b c e f
less_on a b c Equal e f not = ap (octets_cmp a) (sym (octets_cmp-equal b c f)) ∙ e
less_on a b c Greater e f not = absurd (not refl)

abbrev Rises : {A : Type 0} → (A → List ℕ) → List A → Type 0
Rises o [] = ⊤
Rises o (x ∷ []) = ⊤
Rises o (x ∷ y ∷ xs) = (octets_cmp (o x) (o y) ≢ Greater) × Rises o (y ∷ xs)

rest_rises : {A : Type 0} (o : A → List ℕ) (x : A) (xs : List A) → Rises o (x ∷ xs) → Rises o xs
rest_rises o x [] h = tt
rest_rises o x (y ∷ xs) h = h.1

-- One for an encoding that is equal, and zero otherwise.
abbrev one_if : Ordering → ℕ
one_if r = cond (is_eq r) 1 0

abbrev tally : {A : Type 0} → (A → List ℕ) → List ℕ → List A → ℕ
tally o a [] = 0
tally o a (x ∷ xs) = one_if (octets_cmp a (o x)) + tally o a xs

tally-sum : {A : Type 0} (o : A → List ℕ) (a : List ℕ) (xs : List A) → tally o a xs ≡ sum_by (λ x. one_if (octets_cmp a (o x))) xs
tally-sum o a [] = refl
tally-sum o a (x ∷ xs) = ap (λ n. one_if (octets_cmp a (o x)) + n) (tally-sum o a xs) ∙ sym (sum_by-cons (λ x. one_if (octets_cmp a (o x))) x xs)

none : {A : Type 0} (o : A → List ℕ) (a : List ℕ) (x : A) (xs : List A) → octets_cmp a (o x) ≡ Less → Rises o (x ∷ xs) → tally o a (x ∷ xs) ≡ 0
none o a x [] e s = omega (arith, ap one_if e)
none o a x (y ∷ ys) e s = omega (arith, ap one_if e, none o a y ys (less_on a (o x) (o y) (octets_cmp (o x) (o y)) e refl s.0) s.1)

itself : (a : List ℕ) → one_if (octets_cmp a a) ≡ 1
itself a = ap one_if (tied_itself nat_list_cmp_total a)

step : {A : Type 0} (o : A → List ℕ) (x : A) (xs : List A) (y : A) (ys : List A) → Rises o (x ∷ xs) → Rises o (y ∷ ys) → ((a : List ℕ) → tally o a (x ∷ xs) ≡ tally o a (y ∷ ys))
    → (r : Ordering) → octets_cmp (o x) (o y) ≡ r → (o x ≡ o y → flat_map o xs ≡ flat_map o ys) → o x ++ flat_map o xs ≡ o y ++ flat_map o ys
step o x xs y ys s t h Less e next = absurd (omega (arith, none o (o x) y ys e t, h (o x), itself (o x)))
step o x xs y ys s t h Greater e next = absurd (omega (arith, none o (o y) x xs (turned (o x) (o y) Greater e) s, h (o y), itself (o y)))
step o x xs y ys s t h Equal e next =
    let same = octets_cmp-equal (o x) (o y) e in
    ap (λ (u : List ℕ). u ++ flat_map o xs) same ∙ ap (λ (u : List ℕ). o y ++ u) (next same)

arranged : {A : Type 0} (o : A → List ℕ) (xs ys : List A) → Rises o xs → Rises o ys → ((a : List ℕ) → tally o a xs ≡ tally o a ys) → flat_map o xs ≡ flat_map o ys
arranged o [] [] s t h = refl
arranged o [] (y ∷ ys) s t h = absurd (omega (arith, h (o y), itself (o y)))
arranged o (x ∷ xs) [] s t h = absurd (omega (arith, h (o x), itself (o x)))
arranged o (x ∷ xs) (y ∷ ys) s t h =
    step o x xs y ys s t h (octets_cmp (o x) (o y)) refl
    (λ same. arranged o xs ys (rest_rises o x xs s) (rest_rises o y ys t) (λ a. omega (arith, h a, ap (λ (u : List ℕ). one_if (octets_cmp a u)) same)))

rises : (s : Shape) (xs : List (Value s)) → AllValid s (λ v. v) xs → Ascends s (λ v. v) xs → Rises (octets_of s) xs
rises s [] all asc = tt
rises s (x ∷ []) all asc = tt
rises s (x ∷ y ∷ xs) all asc = (asc.0 all.0 all.1.0, rises s (y ∷ xs) all.1 asc.1)

-- Members in ascending order have the same concatenated encodings, however they were put in order.
pub one_arrangement : (s : Shape) (xs ys : List (Value s)) → AllValid s (λ v. v) xs → AllValid s (λ v. v) ys → Ascends s (λ v. v) xs → Ascends s (λ v. v) ys → IsPermutation xs ys
    → flat_map (octets_of s) xs ≡ flat_map (octets_of s) ys
one_arrangement s xs ys all same_all asc same_asc moved =
    let o = octets_of s in
    arranged o xs ys (rises s xs all asc) (rises s ys same_all same_asc) (λ a.
    tally-sum o a xs ∙ sym (sum_by-IsPermutation (λ x. one_if (octets_cmp a (o x))) xs ys moved) ∙ sym (tally-sum o a ys))

module _ {A : Type 0} (s : Shape) (f : A → Value s) where
  abbrev is_of : List ℕ → A → Bool
  is_of b x = bytes_eq (octets_of s (f x)) b

  pub valid_moved : (xs ys : List A) → IsPermutation xs ys → AllValid s f xs → AllValid s f ys
  valid_moved xs ys same all = let V : A → Type 0 = λ x. IsValid s (f x) in recursion_from_All V ys (All-permutation V xs ys same (All-from_recursion V xs all))

  pub arranged-refl : (xs : List A) → IsArranged s f xs xs
  arranged-refl xs = record { same = IsPermutation-refl xs; equals = λ all b. refl }

  pub arranged-trans : (xs ys zs : List A) → IsArranged s f xs ys → IsArranged s f ys zs → IsArranged s f xs zs
  arranged-trans xs ys zs p q = record { same = IsPermutation-trans xs ys zs p.same q.same; equals = λ all b. q.equals (valid_moved xs ys p.same all) b ∙ p.equals all b }

  pub arranged-before : (rest xs ys : List A) → IsArranged s f xs ys → IsArranged s f (xs ++ rest) (ys ++ rest)
  arranged-before rest xs ys p = record {
    same = IsPermutation-append_left rest xs ys p.same;
    equals = λ all b.
        filter-append (is_of b) ys rest ∙ ap (λ (u : List A). u ++ filter (is_of b) rest) (p.equals (front_all (λ x. IsValid s (f x)) xs rest all) b) ∙ sym (filter-append (is_of b) xs rest);
  }

  -- Inserting an item after its equals

  differs : (b : List ℕ) (y z : A) → octets_of s (f y) ≡ b → octets_cmp (octets_of s (f y)) (octets_of s (f z)) ≡ Less → is_of b z ≡ false
  differs b y z e less = grind (arith, nat_tests, (bytes_eq-Decides (octets_of s (f z)) b).0, tied_itself nat_list_cmp_total (octets_of s (f y)))

  none_equal : (b : List ℕ) (y z : A) (zs : List A) → octets_of s (f y) ≡ b → octets_cmp (octets_of s (f y)) (octets_of s (f z)) ≡ Less → AllValid s f (z ∷ zs) → Ascends s f (z ∷ zs) → filter (is_of b) (z ∷ zs) ≡ []
  none_equal b y z [] e less all asc = rw (differs b y z e less) refl
  none_equal b y z (w ∷ ws) e less all asc =
      let next = less_on (octets_of s (f y)) (octets_of s (f z)) (octets_of s (f w)) (octets_cmp (octets_of s (f z)) (octets_of s (f w))) less refl (asc.0 all.0 all.1.0) in
      rw (differs b y z e less, none_equal b y w ws e next all.1 asc.1) refl

  -- The members after the position of an item.
  behind_it : (b : List ℕ) (y : A) (zs : List A) → IsValid s (f y) → AllValid s f zs → Ascends s f zs → ((z : A) → 0 < length zs → z ≡ get_or zs 0 z → octets_cmp (octets_of s (f y)) (octets_of s (f z)) ≡ Less)
      → filter (is_of b) (y ∷ zs) ≡ filter (is_of b) (zs ++ y ∷ [])
  behind_it b y [] v all asc less = refl
  behind_it b y (z ∷ zs) v all asc less =
      let none = λ (h : is_of b y ≡ true). none_equal b y z zs ((bytes_eq-Decides (octets_of s (f y)) b).0 h) (less z (omega arith) refl) all asc in
      rw (filter-append (is_of b) (z ∷ zs) (y ∷ [])) (grind (arith, nat_tests, none, append-nil (filter (is_of b) (z ∷ zs))))

  drop_ascends : (i : ℕ) (xs : List A) → Ascends s f xs → Ascends s f (drop i xs)
  drop_ascends zero xs asc = asc
  drop_ascends (suc i) [] asc = tt
  drop_ascends (suc i) (x ∷ []) asc = drop_ascends i [] tt
  drop_ascends (suc i) (x ∷ y ∷ xs) asc = drop_ascends i (y ∷ xs) asc.1

  first_of : (i : ℕ) (xs : List A) (z : A) → get_or (drop i xs) 0 z ≡ get_or xs i z
  first_of i xs z = get_or-drop i xs 0 z ∙ ap (λ n. get_or xs n z) (omega arith)

  pub inserted : (front : List A) (i : ℕ) (y : A) → Ascends s f front → IsPlace s f front y i → IsArranged s f (front ++ y ∷ []) (insert front i y)
  inserted front i y asc p = record {
    same = IsPermutation-trans (front ++ y ∷ []) (y ∷ front) (insert front i y) (IsPermutation-to_front front y) (IsPermutation-insert front i y);
    equals = λ all b.
        let a = take i front in
        let c = drop i front in
        let parts : a ++ c ≡ front = take-append-drop i front in
        let V : A → Type 0 = λ x. IsValid s (f x) in
        let valid = front_all V front (y ∷ []) all in
        let last : IsValid s (f y) = (back_all V front (y ∷ []) all).0 in
        let behind : AllValid s f c = back_all V a c (subst (AllValid s f) (sym parts) valid) in
        let above : (z : A) → 0 < length c → z ≡ get_or c 0 z → octets_cmp (octets_of s (f y)) (octets_of s (f z)) ≡ Less = λ z some is.
        p.before z (omega (arith, some, length-drop i front)) (is ∙ first_of i front z) last (valid_at s f c 0 z some is behind) in
        filter-append (is_of b) a (y ∷ c) ∙ ap (λ (u : List A). filter (is_of b) a ++ u) (behind_it b y c last behind (drop_ascends i front asc) above)
        ∙ sym (filter-append (is_of b) a (c ++ y ∷ [])) ∙ ap (filter (is_of b)) (sym (append_assoc a c (y ∷ [])) ∙ ap (λ (u : List A). u ++ y ∷ []) parts);
  }

  -- Moving the last of the first members to its position, as a loop does

  same_at : (old xs : List A) (end : ℕ) (y : A) → drop end xs ≡ drop end old → y ≡ get_or xs end y → y ≡ get_or old end y
  same_at old xs end y behind here = here ∙ sym (first_of end xs y) ∙ ap (λ (u : List A). get_or u 0 y) behind ∙ first_of end old y

  pub arranged_more : (old xs : List A) (end place : ℕ) (y : A) → IsPermutation old xs → end < length xs → y ≡ get_or xs end y → drop end xs ≡ drop end old → Ascends s f (take end xs) → IsPlace s f (take end xs) y place
      → IsArranged s f (take end old) (take end xs) → IsArranged s f (take (end + 1) old) (take (end + 1) (insert (take end xs) place y ++ drop (end + 1) xs))
  arranged_more old xs end place y same lt here behind asc p so_far =
      let front = take end xs in
      let long : length (insert front place y) ≡ end + 1 = omega (arith, length-insert front place y p.within, length-take end xs) in
      let more : take (end + 1) old ≡ take end old ++ y ∷ [] = last_is old end y (omega (arith, length_permutation old xs same)) (same_at old xs end y behind here) in
      rw (take_at (insert front place y) (drop (end + 1) xs) (end + 1) long, more)
      (arranged-trans (take end old ++ y ∷ []) (front ++ y ∷ []) (insert front place y) (arranged-before (y ∷ []) (take end old) front so_far) (inserted front place y asc p))

  pub behind_more : (old xs : List A) (end place : ℕ) (y : A) → end < length xs → place ≤ length (take end xs) → drop end xs ≡ drop end old → drop (end + 1) (insert (take end xs) place y ++ drop (end + 1) xs) ≡ drop (end + 1) old
  behind_more old xs end place y lt within behind =
      let front = take end xs in
      let long : length (insert front place y) ≡ end + 1 = omega (arith, length-insert front place y within, length-take end xs) in
      drop_at (insert front place y) (drop (end + 1) xs) (end + 1) long ∙ sym (drop-drop 1 end xs) ∙ ap (drop 1) behind ∙ drop-drop 1 end old

  pub arranged_whole : (old xs : List A) (end : ℕ) → IsPermutation old xs → length xs ≤ end → IsArranged s f (take end old) (take end xs) → IsArranged s f old xs
  arranged_whole old xs end same le h =
      let P : List A → List A → Type 0 = IsArranged s f in
      subst (λ (u : List A). P u xs) (take_all end old (omega (arith, length_permutation old xs same))) (subst (P (take end old)) (take_all end xs le) h)

  pub stops_behind : (first end : ℕ) (old xs : List A) (y : A) (e : Error) → first ≤ end → end < length xs → IsPermutation old xs → y ≡ get_or xs end y → drop end xs ≡ drop end old → IsArranged s f (take end old) (take end xs)
      → TooLong s f (y ∷ take end xs) e → StopsBehind s f first old (take end xs) end e
  stops_behind first end old xs y e least lt same here behind so_far t =
      let P : A → Type 0 = λ x. TooLong s f (x ∷ take end xs) e in
      let within : end < length old = omega (arith, length_permutation old xs same) in
      record {
        least = least;
        within = within;
        arranged = so_far;
        why = λ x is. subst P (same_at old xs end y behind here ∙ get_or_default old end y x within ∙ sym is) t;
      }

  pub stopped_too_long : (first : ℕ) (old new : List A) (count : ℕ) (e : Error) → StopsBehind s f first old new count e → TooLong s f old e
  stopped_too_long first [] new count e h = absurd (omega (arith, h.within))
  stopped_too_long first (x ∷ xs) new count e h =
      let V : A → Type 0 = λ y. IsValid s (f y) in
      let all = x ∷ xs in
      let y : A = get_or all count x in
      let t = h.why y (get_or_default all count x y h.within) in
      record {
        kind = t.kind;
        some = λ valid. t.some (valid_at s f all count y h.within (get_or_default all count x y h.within) valid, valid_moved (take count all) new h.arranged.same (recursion_from_All V (take count all) (All-take V count all (All-from_recursion V all valid))));
      }

  -- Items that came after members

  gained_front : (old items : List A) (count : ℕ) → length old ≤ count → take count (old ++ items) ≡ old ++ take (count - length old) items
  gained_front old items count le =
      let sum : count ≡ length old + (count - length old) = omega arith in
      ap (λ (n : ℕ). take n (old ++ items)) sum ∙ take-append-add old items (count - length old)

  pub stops_in : (old items new : List A) (e : Error) → (count : ℕ) × StopsBehind s f (length old) (old ++ items) new count e → StopsIn s f old items new e
  stops_in old [] new e h = absurd (omega (arith, h.1.least, h.1.within, length-append old []))
  stops_in old (y ∷ ys) new e h =
      let items = y ∷ ys in
      let count = h.0 in
      let k : ℕ = count - length old in
      let within : k < length items = omega (arith, h.1.least, h.1.within, length-append old items) in
      let x : A = get_or items k y in
      record {
        front = take k items;
        refused = x;
        back = drop (k + 1) items;
        are = sym (take-append-drop k items) ∙ ap (λ (u : List A). take k items ++ u) (drop_more items k y within);
        gains = let P : List A → Type 0 = λ u. IsArranged s f u new in subst P (gained_front old items count h.1.least) h.1.arranged;
        why = inr (h.1.why x (get_or_default items k y x within ∙ sym (get_or-append_right old items (length old) count x refl h.1.least)));
      }

  -- If memory runs out at once, the first item is rejected.
  pub stops_at_once : (old items : List A) (e : Error) → 0 < length items → e.kind ≡ kinds.OutOfMemory → StopsIn s f old items old e
  stops_at_once old [] e some none = absurd (omega arith)
  stops_at_once old (y ∷ ys) e some none = record {
    front = [];
    refused = y;
    back = ys;
    are = refl;
    gains = let P : List A → Type 0 = λ u. IsArranged s f u old in subst P (sym (append-nil old)) (arranged-refl old);
    why = inl none;
  }

  -- If a member was rejected, there are members.
  pub some_members : (xs : List A) (e : Error) → IsOutOfOrder s f xs e ⊎ TooLong s f xs e → 0 < length xs
  some_members [] e h = elim h [ inl o ↦ absurd (o.falls tt tt) | inr t ↦ absurd (t.some tt) ]
  some_members (x ∷ xs) e h = omega arith

-- Sorting by indexes

kept_map : {P X : Type 0} (g : P → X) (test : X → Bool) (ps : List P) → filter test (map g ps) ≡ map g (filter (λ p. test (g p)) ps)
kept_map g test [] = refl
kept_map g test (p ∷ ps) = grind (arith, nat_tests, kept_map g test ps)

-- One of the elements passes the test, or none does.
found : (test : ℕ → Bool) (ps : List ℕ) → ((p : ℕ) × (test p ≡ true)) ⊎ (filter test ps ≡ [])
found test [] = inr refl
found test (p ∷ ps) = go (found test ps) (test p) refl
  where
    go : ((p : ℕ) × (test p ≡ true)) ⊎ (filter test ps ≡ []) → (r : Bool) → test p ≡ r → ((p : ℕ) × (test p ≡ true)) ⊎ (filter test (p ∷ ps) ≡ [])
    go rest true h = inl (p, h)
    go rest false h = elim rest [ inl q ↦ inl q | inr none ↦ inr (rw h none) ]

tie_is : (r t : Ordering) → t ≡ ordering_reverse r → is_eq r ≡ (not (is_lt t) && not (is_lt r))
tie_is r t e = grind (arith, nat_tests)

-- An index with the encoding `b` is equal, in the order, to exactly the indexes with this encoding.
tied_places : (enc : ℕ → List ℕ) (b : List ℕ) (p : ℕ) → bytes_eq (enc p) b ≡ true → (q : ℕ) → bytes_eq (enc q) b ≡ ties (λ p q. is_lt (octets_cmp (enc p) (enc q))) p q
tied_places enc b p h q =
    let here : b ≡ enc p = sym ((bytes_eq-Decides (enc p) b).0 h) in
    ap (bytes_eq (enc q)) here ∙ sym (is_eq-slice_cmp (enc q) (enc p)) ∙ tie_is (octets_cmp (enc q) (enc p)) (octets_cmp (enc p) (enc q)) (turned (enc q) (enc p) (octets_cmp (enc q) (enc p)) refl)

same_kept : (enc : ℕ → List ℕ) (b : List ℕ) (ps qs : List ℕ) → IsStableBy (λ p q. is_lt (octets_cmp (enc p) (enc q))) ps qs → filter (λ q. bytes_eq (enc q) b) qs ≡ filter (λ q. bytes_eq (enc q) b) ps
same_kept enc b ps qs stable =
    let test : ℕ → Bool = λ q. bytes_eq (enc q) b in
    let by : (p : ℕ) × (test p ≡ true) → filter test qs ≡ filter test ps = λ p.
    let tie = ties (λ p q. is_lt (octets_cmp (enc p) (enc q))) p.0 in
    filter_agree test tie (tied_places enc b p.0 p.1) qs ∙ stable p.0 ∙ sym (filter_agree test tie (tied_places enc b p.0 p.1) ps) in
    elim (found test qs) [ inl p ↦ by p | inr none ↦ elim (found test ps) [ inl p ↦ by p | inr nor ↦ none ∙ sym nor ] ]

module _ {A : Type 0} (s : Shape) (f : A → Value s) where
  in_turn : (x : A) (xs : List A) → x ∷ xs ≡ members_at (x ∷ xs) x (range_with_len 0 (length (x ∷ xs)))
  in_turn x xs = fill_by_all (member_at (x ∷ xs) x) (x ∷ xs) (length (x ∷ xs)) x refl (λ k lt. refl)

  -- The members at sorted indexes.
  pub sorted_places : (xs : List A) (places : List ℕ) (ys : List A) → 0 < length xs → IsPermutation (range_with_len 0 (length xs)) places → (AllValid s f xs → KeepsPlaces s f xs places) → ((d : A) → ys ≡ members_at xs d places)
      → IsArranged s f xs ys
  sorted_places [] places ys some same stable are = absurd (omega arith)
  sorted_places (x ∷ xs) places ys some same stable are =
      let all = x ∷ xs in
      let at = member_at all x in
      let range = range_with_len 0 (length all) in
      let moved : IsPermutation (map at range) (map at places) = IsPermutation-map at range places same in
      record {
        same = subst (λ (u : List A). IsPermutation u ys) (sym (in_turn x xs)) (subst (λ (u : List A). IsPermutation (map at range) u) (sym (are x)) moved);
        equals = λ valid b.
            let test : A → Bool = λ y. bytes_eq (octets_of s (f y)) b in
            ap (filter test) (are x) ∙ kept_map at test places ∙ ap (map at) (same_kept (member_encoding s f all) b range places (stable valid)) ∙ sym (kept_map at test range) ∙ ap (filter test) (sym (in_turn x xs));
      }

  pub ascend_more : (xs : List A) (places : List ℕ) (end : ℕ) (x y : A) → 0 < end → end < length places → AscendsAt s f xs places end → ((d : A) → x ≡ get_or xs (get_or places (end - 1) 0) d) → ((d : A) → y ≡ get_or xs (get_or places end 0) d)
      → NotAbove s f x y → AscendsAt s f xs places (end + 1)
  ascend_more xs places end x y some lt asc here next ok = all_adjacent_more places (λ p q. (d : A) → NotAbove s f (member_at xs d p) (member_at xs d q)) end some asc (λ e d.
      let a : x ≡ member_at xs d (get_or places (end - 1) e) = here d ∙ ap (member_at xs d) (get_or_default places (end - 1) 0 e (omega arith)) in
      let b : y ≡ member_at xs d (get_or places end e) = next d ∙ ap (member_at xs d) (get_or_default places end 0 e lt) in
      subst (λ (v : A). NotAbove s f v (member_at xs d (get_or places end e))) a (subst (λ (v : A). NotAbove s f x v) b ok))

  ascends_from : (places : List ℕ) (xs : List A) (d : A) → AscendsAt s f xs places (length places) → Ascends s f (members_at xs d places)
  ascends_from [] xs d h = tt
  ascends_from (p ∷ []) xs d h = tt
  ascends_from (p ∷ q ∷ places) xs d h = (
    h 0 0 (omega arith) d,
    ascends_from (q ∷ places) xs d (λ k e lt.
        let P : ℕ → Type 0 = λ n. (d : A) → NotAbove s f (member_at xs d (get_or (q ∷ places) k e)) (member_at xs d (get_or (p ∷ q ∷ places) n e)) in
        let next : suc k + 1 ≡ suc (k + 1) = omega arith in
        subst P next (h (suc k) e (omega arith))),
  )

  pub places_ascend : (xs : List A) (places : List ℕ) (ys : List A) → 0 < length xs → AscendsAt s f xs places (length places) → ((d : A) → ys ≡ members_at xs d places) → Ascends s f ys
  places_ascend [] places ys some asc are = absurd (omega arith)
  places_ascend (x ∷ xs) places ys some asc are = subst (Ascends s f) (sym (are x)) (ascends_from places (x ∷ xs) x asc)

  -- The result of sorting by indexes, from the values along each path.
  pub sorted_from : (xs us : List A) (places ps : List ℕ) (ys : List A) → us ≡ xs → ps ≡ places → 0 < length xs → IsPermutation (range_with_len 0 (length us)) places → (AllValid s f us → KeepsPlaces s f us places) → AscendsAt s f us places (length places)
      → ((d : A) → ys ≡ members_at xs d ps) → IsArranged s f xs ys × Ascends s f ys
  sorted_from xs us places ps ys same order some moved stable asc are =
      let E : (d : A) → ys ≡ members_at xs d places = λ d. are d ∙ ap (members_at xs d) order in (
        sorted_places xs places ys some (subst (λ (u : List A). IsPermutation (range_with_len 0 (length u)) places) same moved) (subst (λ (u : List A). AllValid s f u → KeepsPlaces s f u places) same stable) E,
        places_ascend xs places ys some (subst (λ (u : List A). AscendsAt s f u places (length places)) same asc) E,
      )

-- Taking members separately

-- The members that weren't taken are still there: those whose index isn't among the first `count`
-- ones.
abbrev pub Untaken : {A : Type 0} → List A → List ℕ → ℕ → List (Option A) → Type 0
Untaken {A} xs places count apart = (q : ℕ) (d : A) → q < length xs → ((j : ℕ) → j < count → get_or places j 0 ≢ q) → get_or apart q None ≡ Some (get_or xs q d)

pub places_below : (n : ℕ) (places : List ℕ) → IsPermutation (range_with_len 0 n) places → (k d : ℕ) → k < length places → get_or places k d < n
places_below n places same = All-permutation (λ p. p < n) (range_with_len 0 n) places same (λ k d lt.
    let long = length-range_with_len 0 n in
    omega (arith, get_or-range_with_len 0 n k d (omega (arith, long)), long))

-- No index occurs twice.
abbrev Differ : List ℕ → Type 0
Differ l = (j k d : ℕ) → j < length l → k < length l → get_or l j d ≡ get_or l k d → j ≡ k

-- The element at `k` after two elements were exchanged, and its index before.
source : (f g : ℕ → ℕ) (a b k : ℕ) → Swapped f g a b → (m : ℕ) × (g k ≡ f m) × (((k ≡ a) × (m ≡ b)) ⊎ (((k ≡ b) × (m ≡ a)) ⊎ ((k ≡ a → ⊥) × (k ≡ b → ⊥) × (m ≡ k))))
source f g a b k w =
    elim (cases_eq k a) [
      | inl e ↦ (b, ap g e ∙ w.0, inl (e, refl))
      | inr n ↦ elim (cases_eq k b) [ inl e ↦ (a, ap g e ∙ w.1, inr (inl (e, refl))) | inr o ↦ (k, w.2 k n o, inr (inr (n, o, refl))) ]
    ]

differ_swapped : (l : List ℕ) (a b : ℕ) → a < length l → b < length l → Differ l → Differ (swap l a b)
differ_swapped l a b p q h j k d x y e =
    let w = swapped_from_swap l (swap l a b) a b d p q refl in
    let long = length-swap l a b in
    let s = source (λ i. get_or l i d) (λ i. get_or (swap l a b) i d) a b j w in
    let t = source (λ i. get_or l i d) (λ i. get_or (swap l a b) i d) a b k w in
    let was = s.2 in
    let was' = t.2 in
    let same = h s.0 t.0 d (omega arith) (omega arith) (sym s.1 ∙ e ∙ t.1) in
    omega arith

places_differ : (n : ℕ) (places : List ℕ) → IsPermutation (range_with_len 0 n) places → Differ places
places_differ n places same =
    IsPermutation-keeps (range_with_len 0 n) Differ (λ j k d x y e.
    let long = length-range_with_len 0 n in
    omega (arith, e, get_or-range_with_len 0 n j d (omega (arith, long)), get_or-range_with_len 0 n k d (omega (arith, long)))) differ_swapped places same

module _ {A : Type 0} (xs : List A) (places : List ℕ) (count : ℕ) (apart : List (Option A)) where
  -- The next member is still there.
  pub untaken_here : IsPermutation (range_with_len 0 (length xs)) places → count < length places → Untaken xs places count apart → (d : A) → get_or apart (get_or places count 0) None ≡ Some (get_or xs (get_or places count 0) d)
  untaken_here same lt left d = left (get_or places count 0) d (places_below (length xs) places same count 0 lt) (λ j before e.
      let k = places_differ (length xs) places same j count 0 (omega arith) lt e in
      absurd (omega (arith, k)))

  pub untaken_more : (after : List (Option A)) → after ≡ set apart (get_or places count 0) None → Untaken xs places count apart → Untaken xs places (count + 1) after
  untaken_more after is left q d lt other =
      ap (λ (u : List (Option A)). get_or u q None) is ∙ get_or-set_other apart (get_or places count 0) q None None (λ e. other count (omega arith) (sym e)) ∙ left q d lt (λ j before. other j (omega arith))

  pub taken_more : (taken : List A) (d x : A) → count < length places → x ≡ get_or xs (get_or places count 0) d → taken ≡ members_at xs d (take count places) → taken ++ x ∷ [] ≡ members_at xs d (take (count + 1) places)
  taken_more taken d x lt here so_far =
      ap (λ (u : List A). u ++ x ∷ []) so_far ∙ ap (λ (z : A). members_at xs d (take count places) ++ z ∷ []) here ∙ sym (map-append (member_at xs d) (take count places) (get_or places count 0 ∷ [])) ∙ ap (members_at xs d) (sym (take_more places count 0 lt))

-- At the beginning, no member was taken.
pub all_apart : {A : Type 0} (xs : List A) (places : List ℕ) (apart : List (Option A)) → apart ≡ map (λ x. Some x) xs → Untaken xs places 0 apart
all_apart {A} xs places apart is q d lt other = ap (λ (u : List (Option A)). get_or u q None) is ∙ get_or-map (λ x. Some x) xs q d None lt

pub as_many : {A : Type 0} (xs : List A) (apart : List (Option A)) (places : List ℕ) → apart ≡ map (λ x. Some x) xs → IsPermutation (range_with_len 0 (length apart)) places → IsPermutation (range_with_len 0 (length xs)) places
as_many {A} xs apart places is same =
    let long : length apart ≡ length xs = ap (λ (u : List (Option A)). length u) is ∙ length-map xs (λ x. Some x) in
    subst (λ (n : ℕ). IsPermutation (range_with_len 0 n) places) long same

pub offset_fits : (p n size : ℕ) → p < n → n * size < 9223372036854775808 → p * size < 18446744073709551616
offset_fits p n size lt fits = omega (arith, fits, mul-le p size n size (omega arith) (omega arith))
