-- Lemmas about members in ascending order: inserting one, and going over those of a borrowed set.
use Rattle.std.proofs.Common.{◌≡◌, ℕ, zero, suc, ◌+◌, ◌-◌, ◌<◌, ◌≤◌, List, [], ◌∷◌, ◌++◌, length, get_or, take, drop, refl, ap, sym, subst, ◌∙◌, arith, Result, Ok, ◌≢◌, Ordering, Greater, IsPermutation, true, Err, slice_get, Some, None, le-ltb}
use Rattle.std.specs.List.{AllZip, insert}
use Rattle.std.specs.Ordering.{ordering_reverse}
use Rattle.std.specs.Cmp.Lexicographic.{nat_list_cmp_total}
use Rattle.std.proofs.lemmas.List.{get_or_default, get_or-take, take_more, take-append-drop, take_at, length-take, take_all, drop_all, length-drop, nil_from_length}
use Rattle.std.proofs.lemmas.List.Edits.{length-insert}
use Rattle.std.proofs.lemmas.List.Elements.{All-take, All-from_recursion, recursion_from_All}
use Rattle.std.proofs.lemmas.List.Sorted.{All-permutation, IsPermutation-trans, IsPermutation-to_front, IsPermutation-insert, IsPermutation-append_left}
use Rattle.der_core.specs.ErrorTypes.Error.{Error}
use Rattle.der_core.specs.Shapes.{Shape, Value, IsValid, octets_of}
use Rattle.der_core.specs.Orders.{octets_cmp, encodings_cmp}
use Rattle.der_core.specs.Placed.{AllValid}
use Rattle.der_types_sets.specs.Sets.{NotAbove, IsBelow, Ascends, Behind, Before, IsPlace, TooLong, IsBelowLast}
use Rattle.std.proofs.lemmas.Option.{slice_get_past}
use Rattle.der_core.specs.Limits.{length_max, levels_max}
use Rattle.der_core.specs.ErrorTypes.ErrorKind.{ErrorKind}
use Rattle.der_core.specs.ErrorTypes.ErrorKind.TheVariants as kinds
use Rattle.der_core.specs.Spelling.{is_apart}
use Rattle.der_core.specs.Grammar.{read, plain_list}
use Rattle.der_core.proofs.Results.{IsBytes, only_memory}
use Rattle.der_core.proofs.HeadLaws.{fits_rest}
use Rattle.der_core.proofs.OneEncoding.{sound}
use Rattle.der_core.specs.OctetsFronts.{read_front}
use Rattle.der_types_sets.specs.Ascending.{first_of, values_at}
use Rattle.der_types_sets.specs.Lent.{Lent, IsSpelled, members_lent, YieldsMember}

below_not_above : {A : Type 0} (s : Shape) (f : A → Value s) (x y : A) → IsBelow s f x y → NotAbove s f x y
below_not_above s f x y below v w greater = absurd (cc (below v w, greater))

pub ascends-insert : {A : Type 0} (s : Shape) (f : A → Value s) (xs : List A) (i : ℕ) (x : A) → Ascends s f xs → i ≤ length xs → Behind s f xs x i → Before s f xs x i → Ascends s f (insert xs i x)
ascends-insert s f [] zero x asc le p q = tt
ascends-insert s f (y ∷ ys) zero x asc le p q = (below_not_above s f x y (q y (omega arith) refl), asc)
ascends-insert s f (y ∷ []) (suc zero) x asc le p q = (p y 0 refl refl, tt)
ascends-insert s f (y ∷ z ∷ zs) (suc zero) x asc le p q = (p y 0 refl refl, (below_not_above s f x z (q z (omega arith) refl), asc.1))
ascends-insert s f (y ∷ z ∷ zs) (suc (suc i)) x asc le p q =
    (asc.0, ascends-insert s f (z ∷ zs) (suc i) x asc.1 (omega arith) (λ w k e h. p w (suc k) (ap suc e) h) (λ w lt h. q w (omega arith) h))
ascends-insert s f xs i x asc le p q = absurd (omega arith)

pub placed : {A : Type 0} (s : Shape) (f : A → Value s) (xs : List A) (i : ℕ) (x : A) → Ascends s f xs → IsPlace s f xs x i → Ascends s f (insert xs i x)
placed s f xs i x asc p = ascends-insert s f xs i x asc p.within p.behind p.before

pub before_here : {A : Type 0} (s : Shape) (f : A → Value s) (xs : List A) (x y : A) (m : ℕ) → y ≡ get_or xs m y → IsBelow s f x y → Before s f xs x m
before_here {A} s f xs x y m here ok = λ w lt h.
    let z : y ≡ w = here ∙ get_or_default xs m y w lt ∙ sym h in
    let P : A → Type 0 = λ v. IsBelow s f x v in
    subst P z ok

-- The result of a comparison.
pub told : {A : Type 0} (s : Shape) (f : A → Value s) (x y : A) (r : Result Ordering Error) (o : Ordering) → r ≡ Ok o → o ≢ Greater
    → (IsValid s (f x) → IsValid s (f y) → r ≡ Ok (encodings_cmp s (f x) (f y))) → NotAbove s f x y
told s f x y r o e not h = λ v w greater. not (cc (e, h v w, greater))

pub told_above : {A : Type 0} (s : Shape) (f : A → Value s) (x y : A) (r : Result Ordering Error) → r ≡ Ok Greater
    → (IsValid s (f x) → IsValid s (f y) → r ≡ Ok (encodings_cmp s (f x) (f y))) → IsBelow s f y x
told_above s f x y r e h = λ w v.
    let greater : octets_cmp (octets_of s (f x)) (octets_of s (f y)) ≡ Greater = cc (e, h v w) in
    nat_list_cmp_total.antisymm (octets_of s (f y)) (octets_of s (f x)) ∙ ap ordering_reverse greater

pub valid_at : {A : Type 0} (s : Shape) (f : A → Value s) (xs : List A) (m : ℕ) (y : A) → m < length xs → y ≡ get_or xs m y → AllValid s f xs → IsValid s (f y)
valid_at s f [] m y lt here all = absurd (omega arith)
valid_at {A} s f (x ∷ xs) zero y lt here all = let P : A → Type 0 = λ v. IsValid s (f v) in subst P (sym here) all.0
valid_at s f (x ∷ xs) (suc m) y lt here all = valid_at s f xs m y (omega arith) here all.1

-- Moving the last of the first members to its position

pub moved_up : {A : Type 0} (xs : List A) (end place : ℕ) (y : A) → end < length xs → y ≡ get_or xs end y → IsPermutation xs (insert (take end xs) place y ++ drop (end + 1) xs)
moved_up {A} xs end place y lt here =
    let front = take end xs in
    let rest = drop (end + 1) xs in
    let more : front ++ y ∷ [] ≡ take (end + 1) xs = ap (λ z. front ++ z ∷ []) here ∙ sym (take_more xs end y lt) in
    let all : (front ++ y ∷ []) ++ rest ≡ xs = ap (λ (u : List A). u ++ rest) more ∙ take-append-drop (end + 1) xs in
    let moved = IsPermutation-append_left rest (front ++ y ∷ []) (insert front place y) (IsPermutation-trans (front ++ y ∷ []) (y ∷ front) (insert front place y) (IsPermutation-to_front front y) (IsPermutation-insert front place y)) in
    let P : List A → Type 0 = λ u. IsPermutation u (insert front place y ++ rest) in
    subst P all moved

pub front_ascends : {A : Type 0} (s : Shape) (f : A → Value s) (xs : List A) (end place : ℕ) (y : A) → end < length xs → Ascends s f (take end xs) → IsPlace s f (take end xs) y place
    → Ascends s f (take (end + 1) (insert (take end xs) place y ++ drop (end + 1) xs))
front_ascends {A} s f xs end place y lt asc p =
    let front = take end xs in
    let long : length (insert front place y) ≡ end + 1 = omega (arith, length-insert front place y p.within, length-take end xs) in
    rw (take_at (insert front place y) (drop (end + 1) xs) (end + 1) long) (placed s f front place y asc p)

pub last_is : {A : Type 0} (xs : List A) (end : ℕ) (y : A) → end < length xs → y ≡ get_or xs end y → take (end + 1) xs ≡ take end xs ++ y ∷ []
last_is xs end y lt here = take_more xs end y lt ∙ ap (λ z. take end xs ++ z ∷ []) (sym here)

pub too_long_part : {A : Type 0} (s : Shape) (f : A → Value s) (old xs : List A) (end : ℕ) (y : A) (e : Error) → IsPermutation old xs → end < length xs → y ≡ get_or xs end y
    → TooLong s f (y ∷ take end xs) e → TooLong s f old e
too_long_part {A} s f old xs end y e same lt here t =
    let V : A → Type 0 = λ x. IsValid s (f x) in
    record {
      kind = t.kind;
      some = λ all.
          let now : AllValid s f xs = recursion_from_All V xs (All-permutation V old xs same (All-from_recursion V old all)) in
          t.some (valid_at s f xs end y lt here now, recursion_from_All V (take end xs) (All-take V end xs (All-from_recursion V xs now)));
    }

-- Members of which one is less than the one before it

ascends-at : {A : Type 0} (s : Shape) (f : A → Value s) (xs : List A) (k : ℕ) (x y : A) → suc k < length xs → x ≡ get_or xs k x → y ≡ get_or xs (suc k) y → Ascends s f xs → NotAbove s f x y
ascends-at s f [] k x y lt here next asc = absurd (omega arith)
ascends-at s f (a ∷ []) k x y lt here next asc = absurd (omega arith)
ascends-at {A} s f (a ∷ b ∷ xs) zero x y lt here next asc =
    let P : A → Type 0 = λ v. NotAbove s f v y in
    let Q : A → Type 0 = λ v. NotAbove s f a v in
    subst P (sym here) (subst Q (sym next) asc.0)
ascends-at s f (a ∷ b ∷ xs) (suc k) x y lt here next asc = ascends-at s f (b ∷ xs) k x y (omega arith) here next asc.1

pub falls_at : {A : Type 0} (s : Shape) (f : A → Value s) (xs : List A) (end : ℕ) (y : A) → end < length xs → y ≡ get_or xs end y → IsBelowLast s f (take end xs) y → AllValid s f xs → Ascends s f xs → ⊥
falls_at {A} s f xs end y lt here below all asc =
    let long : length (take end xs) ≡ end = omega (arith, length-take end xs) in
    let some : 0 < end = omega (arith, below.0) in
    let k : ℕ = end - 1 in
    let next : suc k ≡ end = omega arith in
    let x : A = get_or xs k y in
    let at : x ≡ get_or xs k x = get_or_default xs k y x (omega arith) in
    let last : length (take end xs) - 1 ≡ k = omega arith in
    let within : x ≡ get_or (take end xs) (length (take end xs) - 1) x = at ∙ sym (get_or-take end xs k x (omega arith)) ∙ ap (λ i. get_or (take end xs) i x) (sym last) in
    let step = ascends-at s f xs k x y (omega arith) at (here ∙ ap (λ i. get_or xs i y) (sym next)) asc in
    step (valid_at s f xs k x (omega arith) at all) (valid_at s f xs end y lt here all) (below.1 x within (valid_at s f xs k x (omega arith) at all) (valid_at s f xs end y lt here all))

-- Appending a member

pub ascends-last : {A : Type 0} (s : Shape) (f : A → Value s) (xs : List A) (x : A) → Ascends s f xs → IsPlace s f xs x (length xs) → Ascends s f (xs ++ x ∷ [])
ascends-last {A} s f xs x asc p =
    let same : insert xs (length xs) x ≡ xs ++ x ∷ [] = ap (λ (u : List A). u ++ x ∷ drop (length xs) xs) (take_all (length xs) xs (omega arith)) ∙ ap (λ (u : List A). xs ++ x ∷ u) (drop_all (length xs) xs (omega arith)) in
    subst (Ascends s f) same (placed s f xs (length xs) x asc p)

-- Inserting an item into a set

pub put_ascends : {A : Type 0} (s : Shape) (f : A → Value s) (xs ys : List A) (i : ℕ) (x : A) → IsPlace s f xs x i → Ascends s f xs → ys ≡ insert xs i x → Ascends s f ys
put_ascends s f xs ys i x p asc is = subst (Ascends s f) (sym is) (placed s f xs i x asc p)

pub put_same : {A : Type 0} (xs ys : List A) (i : ℕ) (x : A) → ys ≡ insert xs i x → IsPermutation (x ∷ xs) ys
put_same xs ys i x is = subst (IsPermutation (x ∷ xs)) (sym is) (IsPermutation-insert xs i x)

pub last_ascends : {A : Type 0} (s : Shape) (f : A → Value s) (xs ys : List A) (x : A) → IsPlace s f xs x (length xs) → Ascends s f xs → ys ≡ xs ++ x ∷ [] → Ascends s f ys
last_ascends s f xs ys x p asc is = subst (Ascends s f) (sym is) (ascends-last s f xs x asc p)

-- Copies

pub same_copies : {A : Type 0} (C : A → A → Type 0) (xs ys : List A) → AllZip C xs ys → ((x y : A) → C x y → y ≡ x) → ys ≡ xs
same_copies C [] [] h same = refl
same_copies {A} C (x ∷ xs) (y ∷ ys) h same = cc (same x y h.0, same_copies C xs ys h.1 same)
same_copies C xs ys h same = absurd h

-- Contents in ascending order, as a reader and an iterator go over them

-- The first member of encoded ones

-- The first value, and the values after it.
pub record FirstSpelled (s : Shape) (n : ℕ) (w : List ℕ) (v : Value s) (r : List ℕ) : Type 0 where
  pub all : values_at (read s levels_max) n w ≡ v ∷ values_at (read s levels_max) (n - 1) r
  pub left : IsSpelled s (n - 1) r

first_read : (s : Shape) (n : ℕ) (w : List ℕ) (v : Value s) (r : List ℕ) → is_apart s ≡ true → IsBytes w → IsSpelled s (suc n) w → read s levels_max w ≡ Ok (v, r) → FirstSpelled s (suc n) w v r
first_read s n w v r apart bytes spelled e =
    let F = read s levels_max in
    let one : suc n - 1 ≡ n = omega arith in
    let all : values_at F (suc n) w ≡ v ∷ values_at F n r = ap (λ t. first_of t (values_at F n)) e in
    let many : suc (length (values_at F n r)) ≡ suc n = sym (ap (λ (t : List (Value s)). length t) all) ∙ spelled.many in
    let u = sound s 64 w v r apart bytes spelled.short e in
    let left : IsSpelled s n r = record { many = omega arith; short = fits_rest (octets_of s v) r w u.1 spelled.short } in
    let P : ℕ → Type 0 = λ m. IsSpelled s m r in
    record { all = all ∙ ap (λ m. v ∷ values_at F m r) (sym one); left = subst P (sym one) left }

pub first_spelled : (s : Shape) (n : ℕ) (w : List ℕ) (v : Value s) (r : List ℕ) → is_apart s ≡ true → IsBytes w → 0 < n → IsSpelled s n w → read_front s w ≡ Ok (v, r) → FirstSpelled s n w v r
first_spelled s zero w v r apart bytes some spelled e = absurd (omega arith)
first_spelled s (suc n) w v r apart bytes some spelled e = first_read s n w v r apart bytes spelled (rw (le-ltb length_max (length w) (omega (arith, spelled.short))) at e)

one_spelled : (s : Shape) (n : ℕ) (w : List ℕ) (x : Result (Value s × List ℕ) ErrorKind) → read s levels_max w ≡ x → length (first_of x (values_at (read s levels_max) n)) ≡ suc n → (y : Value s × List ℕ) × (read s levels_max w ≡ Ok y)
one_spelled s n w (Ok x) e many = (x, e)
one_spelled s n w (Err k) e many = absurd (omega arith)

pub spelled_wants : (s : Shape) (n : ℕ) (w : List ℕ) (k : ErrorKind) → 0 < n → IsSpelled s n w → (k ≢ kinds.OutOfMemory → read_front s w ≡ Err k) → k ≡ kinds.OutOfMemory
spelled_wants s zero w k some spelled h = absurd (omega arith)
spelled_wants s (suc n) w k some spelled h =
    let x = one_spelled s n w (read s levels_max w) refl spelled.many in
    let front : read_front s w ≡ Ok x.0 = rw (le-ltb length_max (length w) (omega (arith, spelled.short))) x.1 in
    only_memory k x.0 (read_front s w) front h

pub front_lent : {A : Type 0} (s : Shape) (f : A → Value s) (values : List A) (n : ℕ) (w : List ℕ) (v : Value s) (r : List ℕ) → length values ≡ 0 → values_at (read s levels_max) n w ≡ v ∷ values_at (read s levels_max) (n - 1) r
    → plain_list f values ++ values_at (read s levels_max) n w ≡ v ∷ (plain_list f values ++ values_at (read s levels_max) (n - 1) r)
front_lent s f values n w v r none all = rw (nil_from_length values none) all

-- A member at an index

pub none_at : {A : Type 0} (xs : List A) (i n : ℕ) → drop i xs ≡ [] → i ≤ n → slice_get xs n ≡ None
none_at xs i n e le = slice_get_past xs n (omega (arith, ap (λ (u : List _). length u) e, length-drop i xs))

pub yielded : {A : Type 0} (s : Shape) (f : A → Value s) (l t : Lent A) (item : Result A Error) (x : A) → item ≡ Ok x → YieldsMember s f l (Some item) t → members_lent s f l ≡ f x ∷ members_lent s f t
yielded {A} s f l t item x e h = let P : Result A Error → Type 0 = λ u. YieldsMember s f l (Some u) t in subst P e h
