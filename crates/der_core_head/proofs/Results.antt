-- Lemmas about results, lists of bytes, orders, and decoding of fixed numbers of bytes.
use Rattle.std.proofs.Common.{◌≡◌, ◌≢◌, ℕ, Bool, true, false, cond, List, [], ◌∷◌, Result, Ok, Err, refl, ◌⊎◌, inl, inr, IfErr, ◌+◌, ◌<◌, ◌++◌, length, get_or, take, drop, ap, subst, ◌∙◌, arith, ◌≤◌, le-ltb, lt-ltb, map, IsPermutation}
use Rattle.der_core_head.specs.declared.error.Error.{Error}
use Rattle.der_core_head.specs.declared.error.ErrorKind.{ErrorKind}
use Rattle.der_core_head.specs.declared.error.ErrorKind.TheVariants as kinds
use Rattle.der_core_head.specs.Octets.{◌>>=◌, IsOctets, Readings}
use Rattle.der_core_head.specs.Reading.{Gives}
use Rattle.der_core_head.specs.Grammar.{whole, follows, slice_at, value_at, plain_list}
use Rattle.std.proofs.lemmas.Bool.Decides.{nat_tests}
use Rattle.std.proofs.lemmas.List.{drop_at, length-take, get_or-take, get_or-drop, get_or_past}
use Rattle.der_core_head.specs.Shapes.{Step, above, not_below, Follows}
use Rattle.std.proofs.lemmas.List.Sorted.{IsPermutation-map}
use Rattle.std.specs.List.{AllByRecursion}

-- Results and their parts

abbrev pub fine : {A : Type 0} → A → Result A ErrorKind
fine x = Ok x

pub ok_is : {A : Type 0} (x y : A) → fine x ≡ fine y → x ≡ y
ok_is x y e = cc

pub bind_ok : {A B : Type 0} (r : Result A ErrorKind) (f : A → Result B ErrorKind) (y : B) → (r >>= f) ≡ Ok y → (x : A) × (r ≡ Ok x) × (f x ≡ Ok y)
bind_ok (Ok x) f y e = (x, refl, e)
bind_ok (Err d) f y e = absurd cc

-- A test that succeeded.
pub if_ok : {A : Type 0} (b : Bool) (d : ErrorKind) (r : Result A ErrorKind) (y : A) → cond b r (Err d) ≡ Ok y → (b ≡ true) × (r ≡ Ok y)
if_ok true d r y e = (refl, e)
if_ok false d r y e = absurd cc

pub unless_ok : {A : Type 0} (b : Bool) (d : ErrorKind) (r : Result A ErrorKind) (y : A) → cond b (Err d) r ≡ Ok y → (b ≡ false) × (r ≡ Ok y)
unless_ok true d r y e = absurd cc
unless_ok false d r y e = (refl, e)

pub either_ok : {A : Type 0} (b : Bool) (l r : A) (y : A) → cond b l r ≡ y → ((b ≡ true) × (l ≡ y)) ⊎ ((b ≡ false) × (r ≡ y))
either_ok true l r y e = inl (refl, e)
either_ok false l r y e = inr (refl, e)

pub whole_ok : {P : Type 0} (x y : P × List ℕ) → whole x ≡ Ok y → (x ≡ y) × (x.1 ≡ [])
whole_ok (p, []) y e = (ok_is (p, []) y e, refl)
whole_ok (p, b ∷ w) y e = absurd cc

-- The error of a call that can only run out of memory.
pub only_memory : {A : Type 0} (k : ErrorKind) (x : A) (r : Result A ErrorKind) → r ≡ Ok x → (k ≢ kinds.OutOfMemory → r ≡ Err k) → k ≡ kinds.OutOfMemory
only_memory kinds.OutOfMemory x r e h = refl
only_memory _ x r e h = absurd (cc (e, h (λ q. absurd cc)))

-- If the decoder gives a value, the only possible error is `OutOfMemory`.
pub memory_alone : {X P : Type 0} (view : X → P) (given : P → Type 0) (r : Result X Error) → ((v : P) → given v → Gives view r (Ok v))
    → IfErr r (λ e. e.kind ≢ kinds.OutOfMemory → (v : P) → given v → ⊥)
memory_alone view given (Ok x) h = tt
memory_alone view given (Err e) h = λ n v s. let wrong = h v s n in absurd cc

-- Lists of bytes and their parts

abbrev pub IsBytes : List ℕ → Type 0
IsBytes w = (i : ℕ) → get_or w i 0 < 256

pub bytes_drop : (n : ℕ) (w : List ℕ) → IsBytes w → IsBytes (drop n w)
bytes_drop n w h i = rw get_or-drop (h (n + i))

pub bytes_take : (n : ℕ) (w : List ℕ) → IsBytes w → IsBytes (take n w)
bytes_take n w h i = grind (arith, nat_tests, get_or-take n w i 0, get_or_past (take n w) i 0, length-take n w, h i)

pub bytes_rest : (u r w : List ℕ) → w ≡ u ++ r → IsBytes w → IsBytes r
bytes_rest u r w e h = subst IsBytes (ap (drop (length u)) e ∙ drop_at u r (length u) refl) (bytes_drop (length u) w h)

pub bytes_tail : (b : ℕ) (w : List ℕ) → IsBytes (b ∷ w) → IsBytes w
bytes_tail b w h = bytes_rest (b ∷ []) w (b ∷ w) refl h

-- The two statements that a list consists of bytes are equivalent.
pub octets_are : (w : List ℕ) → IsBytes w → IsOctets w
octets_are [] h = tt
octets_are (b ∷ w) h = (h 0, octets_are w (bytes_tail b w h))

-- Encodings in order

pub follows_ok : (how : Step) (a b : List ℕ) → Follows how a b → follows how a b ≡ Ok tt
follows_ok above a b h = rw h refl
follows_ok not_below a b h = grind arith

-- If the check of the order succeeds, the encodings are in order.
pub ok_follows : (how : Step) (a b : List ℕ) (y : Unit {0}) → follows how a b ≡ Ok y → Follows how a b
ok_follows above a b y e = grind arith
ok_follows not_below a b y e = grind arith

-- Fixed numbers of bytes

pub slice_short : (n : ℕ) (w : List ℕ) → length w < n → slice_at n w ≡ Err kinds.Incomplete
unfolding slice_at
slice_short n w h = rw (lt-ltb (length w) n h) refl

pub slice_ok : (n : ℕ) (w : List ℕ) → n ≤ length w → slice_at n w ≡ Ok (take n w, drop n w)
unfolding slice_at
slice_ok n w h = rw (le-ltb (length w) n h) refl

pub value_short : {P : Type 0} (f : Readings P) (n : ℕ) (w : List ℕ) → length w < n → value_at f n w ≡ Err kinds.Incomplete
unfolding value_at
value_short f n w h = rw (lt-ltb (length w) n h) refl

pub value_enough : {P : Type 0} (f : Readings P) (n : ℕ) (w : List ℕ) → n ≤ length w → value_at f n w ≡ (f (take n w) >>= whole >>= λ x. Ok (x.0, drop n w))
unfolding value_at
value_enough f n w h = rw (le-ltb (length w) n h) refl

-- The error is `OutOfMemory`, or the implication holds.
pub or_memory : {X : Type 0} (kind : ErrorKind) → (kind ≢ kinds.OutOfMemory → X) → (kind ≡ kinds.OutOfMemory) ⊎ X
or_memory kinds.OutOfMemory h = inl refl
or_memory _ h = inr (h (λ q. absurd cc))

-- Abstract values of lists

pub plain-append : {A P : Type 0} (f : A → P) (xs ys : List A) → plain_list f (xs ++ ys) ≡ plain_list f xs ++ plain_list f ys
plain-append f [] ys = refl
plain-append f (x ∷ xs) ys = ap (λ (t : List _). f x ∷ t) (plain-append f xs ys)

plain-map : {A P : Type 0} (f : A → P) (xs : List A) → map f xs ≡ plain_list f xs
plain-map f [] = refl
plain-map f (x ∷ xs) = ap (λ (t : List _). f x ∷ t) (plain-map f xs)

pub plain_permutation : {A P : Type 0} (f : A → P) (xs ys : List A) → IsPermutation xs ys → IsPermutation (plain_list f xs) (plain_list f ys)
plain_permutation f xs ys same =
    subst (λ vs. IsPermutation (plain_list f xs) vs) (plain-map f ys) (subst (λ us. IsPermutation us (map f ys)) (plain-map f xs) (IsPermutation-map f xs ys same))

-- If a property of each element implies another one, so it does for all elements.
pub each_alike : {P : Type 0} (F G : P → Type 0) → ((x : P) → F x → G x) → (xs : List P) → AllByRecursion F xs → AllByRecursion G xs
each_alike F G each [] h = tt
each_alike F G each (x ∷ xs) h = (each x h.0, each_alike F G each xs h.1)
