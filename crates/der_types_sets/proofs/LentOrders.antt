-- Lemmas about borrowed sets: their encoding, their comparison, their members as an owned list, and
-- their range.
use Rattle.std.proofs.Common.{◌≡◌, ℕ, zero, suc, ◌<◌, eqb, Bool, false, List, [], ◌∷◌, ◌++◌, length, None, Result, Ok, Err, refl, sym, ap, subst, ◌∙◌, arith, ◌+◌, ◌≤◌, true, get_or, take, drop, drop-cons, Some, ◌⊎◌, inl, inr, ◌≢◌, flat_map, slice_get, Ordering, Less, Bor, Option, bytes_eq, nat_cmp, Equal, Greater, append_assoc}
use Rattle.std.specs.List.{AllByRecursion}
use Rattle.std.proofs.lemmas.Bool.Decides.{nat_tests, Decides-eqb}
use Rattle.std.proofs.lemmas.List.{append-nil, nil_from_length, drop_all}
use Rattle.der_core.specs.Limits.{levels_max}
use Rattle.der_core.specs.ErrorTypes.Error.{Error}
use Rattle.der_core.specs.ErrorTypes.ErrorKind.{ErrorKind}
use Rattle.der_core.specs.Heads.{Fits, length_octets}
use Rattle.der_core.specs.Octets.{◌>>=◌}
use Rattle.der_core.specs.Ranges.{IsInRange}
use Rattle.der_core.specs.Shapes.{not_below, Shape, many, nested, Value, IsValid, IsBody, octets_of, contents, body_octets, AllAscending, Content, ContentValue, tagged, Step, above, Body, any, either, optional, defaulted, nothing, leaf, done, field, only, exactly, few, in_order, BodyValue}
use Rattle.der_core.specs.Grammar.{read, plain_list, plain_option, ordered, follows_last}
use Rattle.der_core.specs.Reading.{GivesNow, Gives}
use Rattle.der_core.specs.Writing.{Out, Writes, put, size_body, write_many, all_follow, write_in_order, write, size, size_content, put_head, head_len, sum_len, fit_len, tlv_len, both_len, many_len, default_len, write_tlv, default_write, write_content, write_body}
use Rattle.der_core.proofs.Written.{sized_body, ordered_written, put_some, put_body, list_valid, out, put_is, unsized, list_in_range}
use Rattle.der_types_sets.specs.Sets.{Ascends}
use Rattle.der_types_sets.specs.Ascending.{JoinsAscending, values_at}
use Rattle.der_types_sets.specs.Lent.{Lent, IsLent, members_spelled, members_lent, IsMisplaced, IsUnwritten, IsUncompared}
use Rattle.std.specs.Ordering.{ordering_then}
use Rattle.std.specs.Cmp.Lexicographic.{pointwise, slice_cmp}
use Rattle.std.proofs.lemmas.Slice.Eq.{strip_prefix_is}
use Rattle.der_core.specs.TagTypes.Tag.{Tag}
use Rattle.der_core.proofs.OrderLaws.{long_inside, then_same, nat_cmp-equal, octets_cmp-self, octets_cmp-append, splits_lengths}
use Rattle.der_core.proofs.Sizes.{size_only, many_over}
use Rattle.der_core.specs.Orders.{octets_cmp, Overflows}
use Rattle.der_types_sets.proofs.AscendingSteps.{length_plain_list, ascends-plain, views}
use Rattle.der_core.specs.Tags.{tag_octets}
use Rattle.der_core.specs.Leaves.{leaf_contents}
use Rattle.der_core.proofs.Results.{bind_ok, or_memory, plain-append}
use Rattle.der_core.specs.ErrorTypes.ErrorKind.TheVariants as kinds
use Rattle.std.proofs.lemmas.Bool.{cases_lt}
use Rattle.der_core.proofs.BoundLaws.{both_all}

-- The content of a borrowed set is its bytes, or the encodings of its values

pub some_at : (n : ℕ) → eqb n 0 ≡ false → 0 < n
some_at n e = grind (arith, nat_tests)

-- The members are those of the values, or those of the bytes

pub of_values : {A : Type 0} (s : Shape) (f : A → Value s) (l : Lent A) → IsLent s f l → length l.octets ≡ 0 → members_lent s f l ≡ plain_list f l.values
of_values s f l h none =
    let no_count : l.count ≡ 0 = grind (arith, h.some) in
    ap (λ n. plain_list f l.values ++ values_at (read s levels_max) n l.octets) no_count ∙ append-nil (plain_list f l.values)

some_spelled : (s : Shape) (n : ℕ) (w : List ℕ) → JoinsAscending s (values_at (read s levels_max) n w) w → 0 < length w → 0 < n
some_spelled s zero w h some = absurd (omega (arith, ap (λ (u : List ℕ). length u) h.octets_are))
some_spelled s (suc n) w h some = omega arith

pub of_octets : {A : Type 0} (s : Shape) (f : A → Value s) (l : Lent A) → IsLent s f l → 0 < length l.octets → members_lent s f l ≡ members_spelled s l
of_octets {A} s f l h some =
    let none : l.values ≡ [] = nil_from_length l.values (h.has.one (some_spelled s l.count l.octets h.joined some)) in
    ap (λ (v : List A). plain_list f v ++ members_spelled s l) none

-- Their concatenated encodings are the content.
pub spelled_contents : {A : Type 0} (s : Shape) (f : A → Value s) (l : Lent A) → IsLent s f l → contents (nested (many s)) (members_spelled s l) ≡ l.octets
unfolding contents body_octets
spelled_contents s f l h = sym h.joined.octets_are

-- The results of the functions

pub values_sized : {A X : Type 0} (s : Shape) (f : A → Value s) (l : Lent A) (view : X → ℕ) (r : Result X Error) → IsLent s f l → length l.octets ≡ 0
    → GivesNow view r (size_body (many s) (plain_list f l.values)) → GivesNow view r (size_body (many s) (members_lent s f l))
values_sized s f l view r h none gives = subst (λ (v : List (Value s)). GivesNow view r (size_body (many s) v)) (sym (of_values s f l h none)) gives

pub octets_sized : {A : Type 0} (s : Shape) (f : A → Value s) (l : Lent A) → IsLent s f l → 0 < length l.octets → size_body (many s) (members_lent s f l) ≡ Ok (length l.octets)
unfolding IsBody body_octets
octets_sized s f l h some =
    let is = h.joined.octets_are in
    ap (size_body (many s)) (of_octets s f l h some) ∙ sized_body (many s) (members_spelled s l) h.joined.valid (subst Fits is h.has.spelled.short) ∙ ap (λ (u : List ℕ). Ok (length u)) (sym is)

values_ordered : {A : Type 0} (s : Shape) (f : A → Value s) (v : List A) → AllByRecursion (IsValid s) (plain_list f v) → Ascends s f v → AllAscending (octets_of s) (plain_list f v)
values_ordered s f [] valid h = tt
values_ordered s f (x ∷ []) valid h = tt
values_ordered s f (x ∷ y ∷ v) valid h = (h.0 valid.0 valid.1.0, values_ordered s f (y ∷ v) valid.1 h.1)

writes_ordered : (memory : Bool) (s : Shape) (v : List (Value s)) (old new : Out) (r : Result (Unit {0}) Error) → (write_many (write s) v old ≡ Ok new → AllAscending (octets_of s) v)
    → Writes memory old new r (write_many (write s) v) → Writes memory old new r (write_in_order not_below (write s) (octets_of s) v)
writes_ordered memory s v old new (Ok u) order h = ordered_written not_below (write s) (octets_of s) v old (order h) ∙ h
writes_ordered memory s v old new (Err d) order h = λ other. ap (λ r. r >>= λ z. all_follow not_below (octets_of s) None v >>= λ _. Ok z) (h other)

pub values_written : {A : Type 0} (memory : Bool) (s : Shape) (f : A → Value s) (l : Lent A) (old new : Out) (r : Result (Unit {0}) Error) → IsLent s f l → length l.octets ≡ 0 → AllByRecursion (IsInRange s) (plain_list f l.values)
    → Writes memory old new r (write_many (write s) (plain_list f l.values)) → Writes memory old new r (write_in_order not_below (write s) (octets_of s) (members_lent s f l))
values_written memory s f l old new r h none range writes =
    let order = λ (went : write_many (write s) (plain_list f l.values) old ≡ Ok new). values_ordered s f l.values (list_valid s (plain_list f l.values) old new went range) h.ascend in
    subst (λ (v : List (Value s)). Writes memory old new r (write_in_order not_below (write s) (octets_of s) v)) (sym (of_values s f l h none)) (writes_ordered memory s (plain_list f l.values) old new r order writes)

put_some_is : (w : List ℕ) (o : Out) → 0 < length w → put_some w o ≡ put w o
put_some_is [] o some = absurd (omega arith)
put_some_is (b ∷ w) o some = refl

writes_same : (memory : Bool) (old new : Out) (r : Result (Unit {0}) Error) (f g : Out → Result Out ErrorKind) → f old ≡ g old → Writes memory old new r g → Writes memory old new r f
writes_same memory old new (Ok u) f g e h = e ∙ h
writes_same memory old new (Err d) f g e h = λ other. e ∙ h other

pub octets_written : {A : Type 0} (memory : Bool) (s : Shape) (f : A → Value s) (l : Lent A) (old new : Out) (r : Result (Unit {0}) Error) → IsLent s f l → 0 < length l.octets
    → Writes memory old new r (put l.octets) → Writes memory old new r (write_in_order not_below (write s) (octets_of s) (members_lent s f l))
unfolding IsBody body_octets
octets_written memory s f l old new r h some writes =
    let v = members_spelled s l in
    let same = put_body (many s) v old h.joined.valid ∙ ap (λ (u : List ℕ). put_some u old) (sym h.joined.octets_are) ∙ put_some_is l.octets old some in
    subst (λ (v : List (Value s)). Writes memory old new r (write_in_order not_below (write s) (octets_of s) v)) (sym (of_octets s f l h some))
    (writes_ordered memory s v old new r (λ _. h.joined.ascend) (writes_same memory old new r (write_many (write s) v) (put l.octets) same writes))

-- The bytes are the content.
pub octets_lent : {A : Type 0} (s : Shape) (f : A → Value s) (l : Lent A) → IsLent s f l → 0 < length l.octets → l.octets ≡ contents (nested (in_order not_below s)) (members_lent s f l)
unfolding contents
octets_lent s f l h some = h.joined.octets_are ∙ ap (body_octets (many s)) (sym (of_octets s f l h some))

-- The order of contents, however the sets are borrowed

-- Writing a value to a vector succeeds, or its encoding exceeds `length_max`, or a strict set in it
-- isn't in ascending order.
abbrev IsPlaced : Result Out ErrorKind → Type 0
IsPlaced (Ok x) = (w : List ℕ) × (x ≡ out w)
IsPlaced (Err k) = IsMisplaced k

-- There is no other error, if the length is valid.
abbrev Places : Result ℕ ErrorKind → (Out → Result Out ErrorKind) → Type 0
Places r f = (n : ℕ) → r ≡ Ok n → (w : List ℕ) → IsPlaced (f (out w))

none_placed : (r : Result ℕ ErrorKind) → Places r (λ o. Ok o)
none_placed r n e w = (w, refl)

put_placed : (b : List ℕ) (r : Result ℕ ErrorKind) → Places r (put b)
put_placed b r n e w = rw (put_is b w) (w ++ b, refl)

then_placed : (r : Result Out ErrorKind) (f : Out → Result Out ErrorKind) → IsPlaced r → ((w : List ℕ) → IsPlaced (f (out w))) → IsPlaced (r >>= f)
then_placed (Ok x) f h rest = rw h.1 (rest h.0)
then_placed (Err k) f h rest = h

tlv_placed : (t : Tag) (r : Result ℕ ErrorKind) (f : Out → Result Out ErrorKind) → Places r f → Places (tlv_len t r) (write_tlv t r f)
unfolding write_tlv tlv_len head_len put_head
tlv_placed t (Ok m) f inner n e w = rw (e, put_is (tag_octets t) w, put_is (length_octets m) (w ++ tag_octets t)) (inner m refl ((w ++ tag_octets t) ++ length_octets m))
tlv_placed t (Err k) f inner n e w = absurd cc

both_placed : (r q : Result ℕ ErrorKind) (f g : Out → Result Out ErrorKind) → Places r f → Places q g → Places (both_len r q) (λ o. f o >>= g)
unfolding both_len
both_placed (Ok m) (Ok k) f g first second n e w = then_placed (f (out w)) g (first m refl w) (second k refl)
both_placed r q f g first second n e w = absurd cc

many_placed : {P : Type 0} (f : P → Out → Result Out ErrorKind) (g : P → Result ℕ ErrorKind) → ((x : P) → Places (g x) (f x)) → (xs : List P) (i : ℕ) → Places (many_len g xs i) (write_many f xs)
many_placed f g each [] i n e w = (w, refl)
many_placed f g each (x ∷ xs) i n e w =
    let p = bind_ok (g x) (λ m. sum_len i m >>= many_len g xs) n e in
    let q = bind_ok (sum_len i p.0) (many_len g xs) n p.2 in
    then_placed (f x (out w)) (write_many f xs) (each x p.0 p.1 w) (many_placed f g each xs q.0 n q.2)

ordered_only : (how : Step) (c : Ordering) (k : ErrorKind) → ordered how c ≡ Err k → IsMisplaced k
ordered_only above Equal k e = inr cc
ordered_only how Greater k e = inl cc
ordered_only how c k e = absurd cc

last_only : (how : Step) (last : Option (List ℕ)) (b : List ℕ) (k : ErrorKind) → follows_last how last b ≡ Err k → IsMisplaced k
last_only how None b k e = absurd cc
last_only how (Some a) b k e = ordered_only how (slice_cmp nat_cmp a b) k e

step_only : (r q : Result (Unit {0}) ErrorKind) (k : ErrorKind) → (r ≡ Err k → IsMisplaced k) → (q ≡ Err k → IsMisplaced k) → (r >>= λ _. q) ≡ Err k → IsMisplaced k
step_only (Ok x) q k first second e = second e
step_only (Err d) q k first second e = first e

follow_only : {P : Type 0} (how : Step) (w : P → List ℕ) (last : Option (List ℕ)) (xs : List P) (k : ErrorKind) → all_follow how w last xs ≡ Err k → IsMisplaced k
follow_only how w last [] k e = absurd cc
follow_only how w last (x ∷ xs) k e = step_only (follows_last how last (w x)) (all_follow how w (Some (w x)) xs) k (last_only how last (w x) k) (follow_only how w (Some (w x)) xs k) e

in_order_placed : {P : Type 0} (how : Step) (f : P → Out → Result Out ErrorKind) (o : P → List ℕ) (xs : List P) (r : Result ℕ ErrorKind) → Places r (write_many f xs) → Places r (write_in_order how f o xs)
in_order_placed how f o xs r all n e w = then_placed (write_many f xs (out w)) (λ z. all_follow how o None xs >>= λ _. Ok z) (all n e w) (λ y. go y (all_follow how o None xs) (follow_only how o None xs))
  where
    go : (y : List ℕ) (q : Result (Unit {0}) ErrorKind) → ((k : ErrorKind) → q ≡ Err k → IsMisplaced k) → IsPlaced (q >>= λ _. Ok (out y))
    go y (Ok u) falls = (y, refl)
    go y (Err k) falls = falls k refl

default_placed : (b : Bool) (r : Result ℕ ErrorKind) (f : Out → Result Out ErrorKind) → Places r f → Places (default_len b r) (default_write b f)
unfolding default_write default_len
default_placed true r f inner n e w = (w, refl)
default_placed false r f inner n e w = inner n e w

mutual
  write_placed : (s : Shape) (v : Value s) → Places (size s v) (write s v)
  write_placed (tagged t c) v = tlv_placed t (size_content c v) (write_content c v) (content_placed c v)
  write_placed any v = tlv_placed v.tag (fit_len (length v.contents)) (put v.contents) (put_placed v.contents (fit_len (length v.contents)))
  write_placed (either a b) (inl v) = write_placed a v
  write_placed (either a b) (inr v) = write_placed b v
  write_placed (optional s) None = none_placed (Ok 0)
  write_placed (optional s) (Some v) = write_placed s v
  write_placed (defaulted s d) v = default_placed (bytes_eq (octets_of s v) d) (size s v) (write s v) (write_placed s v)
  write_placed nothing v = none_placed (Ok 0)

  content_placed : (c : Content) (v : ContentValue c) → Places (size_content c v) (write_content c v)
  content_placed (leaf k) v = put_placed (leaf_contents k v) (fit_len (length (leaf_contents k v)))
  content_placed (nested b) v = body_placed b v

  body_placed : (b : Body) (v : BodyValue b) → Places (size_body b v) (write_body b v)
  body_placed done v = none_placed (Ok 0)
  body_placed (field s b) v = both_placed (size s v.0) (size_body b v.1) (write s v.0) (write_body b v.1) (write_placed s v.0) (body_placed b v.1)
  body_placed (only s) v = write_placed s v
  body_placed (many s) v = many_placed (write s) (size s) (λ x. write_placed s x) v 0
  body_placed (exactly n s) v = many_placed (write s) (size s) (λ x. write_placed s x) v 0
  body_placed (few n s) v = many_placed (write s) (size s) (λ x. write_placed s x) v 0
  body_placed (in_order how s) v = in_order_placed how (write s) (octets_of s) v (many_len (size s) v 0) (many_placed (write s) (size s) (λ x. write_placed s x) v 0)

-- The error of a value that is written to an empty vector.
write_faults : (s : Shape) (v : Value s) (k : ErrorKind) → write s v (out []) ≡ Err k → IsMisplaced k ⊎ ((k ≡ kinds.Overflow) × (size s v ≡ Err kinds.Overflow))
write_faults s v k e = go (size s v) refl
  where
    go : (r : Result ℕ ErrorKind) → size s v ≡ r → IsMisplaced k ⊎ ((k ≡ kinds.Overflow) × (size s v ≡ Err kinds.Overflow))
    go (Ok n) h = inl (subst IsPlaced e (write_placed s v n h []))
    go (Err d) h =
        let over = size_only s v d h in
        let same = unsized s v (out []) d h in
        inr (cc (same, e, over), cc (h, over))

-- Lists of bytes

cmp-behind : (a r t : List ℕ) → octets_cmp (a ++ r) (a ++ t) ≡ octets_cmp r t
cmp-behind a r t = octets_cmp-append a a r t (splits_lengths a a refl) ∙ ap (λ o. ordering_then o (octets_cmp r t)) (octets_cmp-self a)

-- A list that doesn't begin with some bytes is ordered by these bytes alone.
cmp-unlike : (a r b : List ℕ) → ((rest : List ℕ) → b ≢ a ++ rest) → octets_cmp (a ++ r) b ≡ octets_cmp a b
cmp-unlike [] r b unlike = absurd (unlike b refl)
cmp-unlike (x ∷ a) r [] unlike = refl
cmp-unlike (x ∷ a) r (y ∷ b) unlike = then_same (nat_cmp x y) (octets_cmp (a ++ r) b) (octets_cmp a b) (λ e. let same = nat_cmp-equal x y e in cmp-unlike a r b (λ rest whole. unlike rest (cc)))

pub starts_with : (w items : List ℕ) (behind : Bor (List ℕ)) → (pointwise eqb (take (length items) w) items ≡ true) × (behind.now ≡ drop (length items) w) × (length behind.now + length items ≡ length w) → w ≡ items ++ behind.now
starts_with w items behind h = strip_prefix_is Decides-eqb w items (Some behind) h

pub starts_otherwise : (w items : List ℕ) → pointwise eqb (take (length items) w) items ≡ false → (rest : List ℕ) → w ≢ items ++ rest
starts_otherwise w items h = strip_prefix_is Decides-eqb w items None h

-- Comparing one encoding after another with bytes

-- The order of the whole is that of the remaining parts.
pub record Remains {A : Type 0} (s : Shape) (f : A → Value s) (v : List A) (b : List ℕ) (i : ℕ) (w : List ℕ) : Type 0 where
  pub order : octets_cmp (flat_map (octets_of s) (plain_list f v)) b ≡ octets_cmp (flat_map (octets_of s) (plain_list f (drop i v))) w

module _ {A : Type 0} {s : Shape} {f : A → Value s} {v : List A} {b : List ℕ} {i : ℕ} {w : List ℕ} (so_far : Remains s f v b i w) where
  abbrev left : ℕ → List ℕ
  left k = flat_map (octets_of s) (plain_list f (drop k v))

  abbrev all : Ordering
  all = octets_cmp (flat_map (octets_of s) (plain_list f v)) b

  here : {x : A} {items : List ℕ} → i < length v → x ≡ get_or v i x → items ≡ octets_of s (f x) → all ≡ octets_cmp (items ++ left (i + 1)) w
  here {x} {items} lt is spelled =
      let first = ap (λ (u : List A). flat_map (octets_of s) (plain_list f u)) (drop-cons v i x lt) in
      let same = ap (λ (y : A). octets_of s (f y)) (sym is) ∙ sym spelled in
      let more : suc i ≡ i + 1 = omega arith in
      so_far.order ∙ ap (λ (u : List ℕ). octets_cmp u w) (first ∙ ap (λ (u : List ℕ). u ++ left (suc i)) same ∙ ap (λ k. items ++ left k) more)

  pub remains_on : {x : A} {items behind : List ℕ} → i < length v → x ≡ get_or v i x → items ≡ octets_of s (f x) → w ≡ items ++ behind → Remains s f v b (i + 1) behind
  remains_on {x} {items} {behind} lt is spelled starts =
      record { order = here lt is spelled ∙ ap (octets_cmp (items ++ left (i + 1))) starts ∙ cmp-behind items (left (i + 1)) behind }

  pub remains_unlike : {x : A} {items : List ℕ} → i < length v → x ≡ get_or v i x → items ≡ octets_of s (f x) → ((rest : List ℕ) → w ≢ items ++ rest)
      → octets_cmp (flat_map (octets_of s) (plain_list f v)) b ≡ octets_cmp items w
  remains_unlike {x} {items} lt is spelled unlike = here lt is spelled ∙ cmp-unlike items (left (i + 1)) w unlike

  pub remains_end : length v ≤ i → octets_cmp (flat_map (octets_of s) (plain_list f v)) b ≡ octets_cmp [] w
  remains_end le = so_far.order ∙ ap (λ (u : List A). octets_cmp (flat_map (octets_of s) (plain_list f u)) w) (drop_all i v le)

pub less_than_some : (w : List ℕ) → 0 < length w → octets_cmp [] w ≡ Less
less_than_some [] some = absurd (omega arith)
less_than_some (x ∷ w) some = refl

-- The result of a comparison, unless memory ran out.
pub answered : (r : Result Ordering Error) (o : Ordering) → r ≡ Ok o → Gives (λ x. x) r (Ok o)
answered r o e = subst (λ (q : Result Ordering Error). Gives (λ x. x) q (Ok o)) (sym e) refl

-- Errors

pub plain-at : {A P : Type 0} (f : A → P) (v : List A) (i : ℕ) (x : A) → i < length v → x ≡ get_or v i x → slice_get (plain_list f v) i ≡ Some (f x)
plain-at f [] i x lt here = absurd (omega arith)
plain-at {A} f (y ∷ v) zero x lt here = ap (λ (z : A). Some (f z)) (sym here)
plain-at f (y ∷ v) (suc i) x lt here = plain-at f v i x (omega arith) here

-- One of the values couldn't be encoded.
pub unwritten : {A : Type 0} (s : Shape) (f : A → Value s) (v : List A) (i : ℕ) (x : A) (e : Error) → i < length v → x ≡ get_or v i x → (e.kind ≢ kinds.OutOfMemory → write s (f x) (out []) ≡ Err e.kind) → IsUnwritten s (plain_list f v) e
unwritten s f v i x e lt is refused = go (or_memory e.kind refused)
  where
    at : slice_get (plain_list f v) i ≡ Some (f x)
    at = plain-at f v i x lt is

    fault : write s (f x) (out []) ≡ Err e.kind → IsMisplaced e.kind ⊎ ((e.kind ≡ kinds.Overflow) × (size s (f x) ≡ Err kinds.Overflow)) → IsUnwritten s (plain_list f v) e
    fault k (inl misplaced) = inl (inr (record { misplaced = misplaced; index = i; value = f x; here = at; refused = k }))
    fault k (inr over) = inr (over.0, many_over (size s) (size_only s) (plain_list f v) 0 i (f x) at over.1)

    go : (e.kind ≡ kinds.OutOfMemory) ⊎ (write s (f x) (out []) ≡ Err e.kind) → IsUnwritten s (plain_list f v) e
    go (inl memory) = inl (inl memory)
    go (inr k) = fault k (write_faults s (f x) e.kind k)

pub first_unwritten : {P : Type 0} (apart : P) (s : Shape) (v w : List (Value s)) (e : Error) → IsUnwritten s v e → (P × IsUncompared s v w e) ⊎ Overflows e (size_body (many s) v) (size_body (many s) w)
first_unwritten apart s v w e (inl (inl memory)) = inl (apart, inl memory)
first_unwritten apart s v w e (inl (inr falling)) = inl (apart, inr (inl falling))
first_unwritten apart s v w e (inr over) = inr (record { kind = over.0; length = inl over.1 })

pub second_unwritten : {P : Type 0} (apart : P) (s : Shape) (v w : List (Value s)) (e : Error) → IsUnwritten s w e → (P × IsUncompared s v w e) ⊎ Overflows e (size_body (many s) v) (size_body (many s) w)
second_unwritten apart s v w e (inl (inl memory)) = inl (apart, inl memory)
second_unwritten apart s v w e (inl (inr falling)) = inl (apart, inr (inr falling))
second_unwritten apart s v w e (inr over) = inr (record { kind = over.0; length = inr over.1 })

pub inside_long : (P : Error → Type 0) (t : Tag) (c : Content) (v w : ContentValue c) (e : Error) → P e ⊎ Overflows e (size_content c v) (size_content c w) → P e ⊎ Overflows e (size (tagged t c) v) (size (tagged t c) w)
inside_long P t c v w e (inl other) = inl other
inside_long P t c v w e (inr over) = inr (long_inside t t c v w e over)

-- Borrowed and owned sets

pub lent_content : {A : Type 0} (s : Shape) (f : A → Value s) (l : Lent A) (xs : List A) → IsLent s f l → members_lent s f l ≡ plain_list f xs → 0 < length l.octets → l.octets ≡ body_octets (many s) (plain_list f xs)
unfolding body_octets
lent_content s f l xs h same some = h.joined.octets_are ∙ ap (flat_map (octets_of s)) (sym (of_octets s f l h some) ∙ same)

plain-get : {A P : Type 0} (f : A → P) (xs : List A) (i : ℕ) → slice_get (plain_list f xs) i ≡ plain_option f (slice_get xs i)
plain-get f [] i = refl
plain-get f (x ∷ xs) zero = refl
plain-get f (x ∷ xs) (suc i) = plain-get f xs i

pub same_number : {A P : Type 0} (f : A → P) (xs : List A) (v : List P) → v ≡ plain_list f xs → length v ≡ length xs
same_number f xs v e = ap (λ (u : List _). length u) e ∙ length_plain_list f xs

pub same_member : {A P : Type 0} (f : A → P) (xs : List A) (v : List P) (i : ℕ) → v ≡ plain_list f xs → slice_get v i ≡ plain_option f (slice_get xs i)
same_member f xs v i e = ap (λ (u : List _). slice_get u i) e ∙ plain-get f xs i

-- The members of a borrowed set as an owned list

plain-ascends : {A : Type 0} (s : Shape) (f : A → Value s) (xs : List A) → Ascends s (λ v. v) (plain_list f xs) → Ascends s f xs
plain-ascends s f [] h = tt
plain-ascends s f (x ∷ []) h = tt
plain-ascends s f (x ∷ y ∷ xs) h = (h.0, plain-ascends s f (y ∷ xs) h.1)

joined-ascends : (s : Shape) (v : List (Value s)) → AllAscending (octets_of s) v → Ascends s (λ x. x) v
joined-ascends s [] h = tt
joined-ascends s (x ∷ []) h = tt
joined-ascends s (x ∷ y ∷ v) h = ((λ p q. h.0), joined-ascends s (y ∷ v) h.1)

lent-ascends : {A : Type 0} (s : Shape) (f : A → Value s) (l : Lent A) → IsLent s f l → Ascends s (λ x. x) (members_lent s f l)
lent-ascends s f l h = elim (cases_lt 0 (length l.octets)) [
  | inl some ↦ subst (Ascends s (λ x. x)) (sym (of_octets s f l h some)) (joined-ascends s (members_spelled s l) h.joined.ascend)
  | inr none ↦ subst (Ascends s (λ x. x)) (sym (of_values s f l h (omega arith))) (ascends-plain s f l.values h.ascend)
]

-- Each of the members so far was copied.
pub taken_on : {A P : Type 0} (f : A → P) (xs : List A) (x : A) (left more wanted : List P) → plain_list f xs ++ left ≡ wanted → left ≡ f x ∷ more → plain_list f (xs ++ x ∷ []) ++ more ≡ wanted
taken_on f xs x left more wanted so_far next =
    ap (λ (u : List _). u ++ more) (plain-append f xs (x ∷ [])) ∙ append_assoc (plain_list f xs) (f x ∷ []) more ∙ ap (λ (u : List _). plain_list f xs ++ u) (sym next) ∙ so_far

pub all_taken : {A P : Type 0} (f : A → P) (xs : List A) (left wanted : List P) → plain_list f xs ++ left ≡ wanted → left ≡ [] → plain_list f xs ≡ wanted
all_taken f xs left wanted so_far none = sym (append-nil (plain_list f xs)) ∙ ap (λ (u : List _). plain_list f xs ++ u) (sym none) ∙ so_far

pub taken_ascend : {A : Type 0} (s : Shape) (written plain : A → Value s) (agree : (x : A) → written x ≡ plain x) (l : Lent A) (xs : List A) → IsLent s written l → plain_list plain xs ≡ members_lent s plain l → Ascends s written xs
taken_ascend {A} s written plain agree l xs h same =
    let P : (A → Value s) → Type 0 = λ f. plain_list f xs ≡ members_lent s f l in
    plain-ascends s written xs (subst (Ascends s (λ x. x)) (sym (subst P (sym (views s written plain agree)) same)) (lent-ascends s written l h))

-- The members of a borrowed set are in range

pub lent_in_range : {A : Type 0} (s : Shape) (f : A → Value s) (l : Lent A) → IsLent s f l → AllByRecursion (IsInRange s) (plain_list f l.values) → AllByRecursion (IsInRange s) (members_lent s f l)
lent_in_range s f l h values = both_all (IsInRange s) (plain_list f l.values) (members_spelled s l) values (list_in_range s (members_spelled s l) h.joined.valid)
