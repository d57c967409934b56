-- Lemmas about decoding the members of sets, one after another: in ascending order, in strictly
-- ascending order, at most a number of them, or in any order.
use Rattle.std.proofs.Common.{◌≡◌, ◌≤◌, ℕ, zero, suc, true, List, [], ◌∷◌, length, take, drop, Result, Ok, inr, ◌⊎◌, refl, sym, ap, subst, ◌∙◌, flat_map, IsPermutation, le-ltb, append-nil, take-append-drop, arith, ◌+◌, ◌<◌, ◌++◌, Option, Some, None, ◌≢◌, length-append}
use Rattle.std.specs.List.{AllByRecursion}
use Rattle.std.proofs.lemmas.List.Sorted.{IsPermutation-sym, IsPermutation-trans, length_permutation}
use Rattle.der_core.specs.EncodingRulesTypes.EncodingRules.{EncodingRules}
use Rattle.der_core.specs.EncodingRulesTypes.EncodingRules.TheVariants as encodings
use Rattle.der_core.specs.ErrorTypes.Error.{Error}
use Rattle.der_core.specs.ErrorTypes.ErrorKind.{ErrorKind}
use Rattle.der_core.specs.ErrorTypes.ErrorKind.TheVariants as kinds
use Rattle.der_core.specs.TagTypes.Tag.{Tag}
use Rattle.der_core.specs.TagTypes.Tag.TheVariants as tags
use Rattle.der_core.specs.Octets.{Readings, ◌>>=◌}
use Rattle.der_core.specs.Heads.{Fits}
use Rattle.der_core.specs.Shapes.{Shape, Body, BodyValue, tagged, nested, many, Value, Spells, IsValid, IsContent, IsBody, octets_of, contents, body_octets, few, Step, above, not_below, ascending, rising, AllRising}
use Rattle.der_core.specs.Spelling.{is_apart, is_element, are_content_enough, are_enough}
use Rattle.der_core.specs.Grammar.{whole, value_at, read, read_many, read_content, read_content_by, read_body_by, plain_list, read_body, read_in_order, follows_last}
use Rattle.der_core.specs.Reading.{State, IsDer, IsBer, Fails, read_content_at, IsRest, read_at}
use Rattle.der_core.proofs.Results.{ok_is, bind_ok, whole_ok, IsBytes, bytes_take, fine, plain_permutation}
use Rattle.der_core.proofs.HeadLaws.{fits_front}
use Rattle.der_core.proofs.OneEncoding.{value_sound, many_sound, sound, one_body, OrderedFrom, order_on, from_none}
use Rattle.der_core.proofs.Complete.{complete_content, complete_body, more_body}
use Rattle.der_core.specs.Both.{both_true}
use Rattle.der_core.specs.Placed.{AllValid}
use Rattle.der_types_sets.specs.Sets.{Ascends, Loose, SpellsLoosely, TooLong}
use Rattle.der_types_sets.proofs.Arranged.{one_arrangement, valid_moved}
use Rattle.der_core.specs.Limits.{levels_max}
use Rattle.der_core.proofs.Lists.{InTurn, all_in_turn, none_in_turn, on_in_turn, done_in_turn}
use Rattle.der_types_sets.specs.Ascending.{JoinsAscending, IsCount, first_of, values_at}

-- Members in any order

-- Abstract values

pub ascends-plain : {A : Type 0} (s : Shape) (f : A → Value s) (xs : List A) → Ascends s f xs → Ascends s (λ v. v) (plain_list f xs)
ascends-plain s f [] h = tt
ascends-plain s f (x ∷ []) h = tt
ascends-plain s f (x ∷ y ∷ xs) h = (h.0, ascends-plain s f (y ∷ xs) h.1)

pub valid-plain : {A : Type 0} (s : Shape) (f : A → Value s) (xs : List A) → AllByRecursion (IsValid s) (plain_list f xs) → AllValid s f xs
valid-plain s f [] h = tt
valid-plain s f (x ∷ xs) h = (h.0, valid-plain s f xs h.1)

-- Decoded members

-- The body of a content, with the levels that are left.
pub inner : (rules : EncodingRules) (b : Body) (t : Tag) (room n : ℕ) (w : List ℕ) (v : BodyValue b) (r : List ℕ) → value_at (read_content_by rules (nested b) t room) n w ≡ Ok (v, r) → (m : ℕ) × (read_body_by rules b m (take n w) ≡ Ok (v, []))
inner rules b t zero n w v r e = let h = (value_sound (read_content_by rules (nested b) t zero) n w v r e).1 in absurd cc
inner rules b t (suc m) n w v r e =
    let q = bind_ok (read_body_by rules b m (take n w)) whole (v, []) (value_sound (read_content_by rules (nested b) t (suc m)) n w v r e).1 in
    (m, q.1 ∙ ap (λ (p : BodyValue b × List ℕ). Ok p) (whole_ok q.0 (v, []) q.2).0)

-- The bytes are the concatenated encodings of the members.
pub record Joins (s : Shape) (v : List (Value s)) (w : List ℕ) : Type 0 where
  pub valid : AllValid s (λ x. x) v
  pub octets_are : w ≡ flat_map (octets_of s) v

pub joins : (k : ErrorKind) (s : Shape) (room n : ℕ) (w : List ℕ) (v : List (Value s)) → is_apart s ≡ true → IsBytes w → Fits w → read_many k (read s room) n w ≡ Ok (v, []) → Joins s v w
joins k s room n w v apart bytes fits e =
    let h = many_sound k (read s room) (IsValid s) (octets_of s) (λ w v r bytes fits e. sound s room w v r apart bytes fits e) n w v [] bytes fits e in
    record { valid = h.0; octets_are = h.1 ∙ append-nil (flat_map (octets_of s) v) }

pub fits_take : (n : ℕ) (w : List ℕ) → Fits w → Fits (take n w)
fits_take n w fits = fits_front (take n w) (drop n w) w (sym (take-append-drop n w)) fits

-- If the reader's encoding rules are DER, a content is decoded under DER.
pub as_der : (b : Body) (t : Tag) (old : State) (n : ℕ) → IsDer old → value_at (read_content (nested b) t old.room) n old.rest ≡ value_at (read_content_at old (nested b) t) n old.rest
as_der b t old n der = ap (λ r. value_at (read_content_by r (nested b) t old.room) n old.rest) (sym der)

pub many_joins : (s : Shape) (t : Tag) (old : State) (n : ℕ) (v : List (Value s)) (r : List ℕ) → is_apart s ≡ true → IsBytes old.rest → Fits old.rest → IsDer old → value_at (read_content_at old (nested (many s)) t) n old.rest ≡ Ok (v, r) → Joins s v (take n old.rest)
many_joins s t old n v r apart bytes fits der e =
    let i = inner encodings.Der (many s) t old.room n old.rest v r (as_der (many s) t old n der ∙ e) in
    joins kinds.TrailingData s i.0 (length (take n old.rest)) (take n old.rest) v apart (bytes_take n old.rest bytes) (fits_take n old.rest fits) i.1

-- Encodings are decoded

pub value_is : {P : Type 0} (F : Readings P) (n : ℕ) (w : List ℕ) (v : P) → n ≤ length w → F (take n w) ≡ Ok (v, []) → value_at F n w ≡ Ok (v, drop n w)
unfolding value_at
value_is F n w v le e = rw (le-ltb (length w) n le, e) refl

pub many_again : (s : Shape) (t : Tag) (old : State) (n : ℕ) (v : List (Value s)) → is_element s ≡ true → is_apart s ≡ true → are_content_enough (nested (many s)) old.room ≡ true → IsDer old → n ≤ length old.rest
    → (loose : Loose s v (take n old.rest)) → value_at (read_content_at old (nested (many s)) t) n old.rest ≡ Ok (loose.spelled, drop n old.rest)
unfolding IsContent IsBody contents body_octets
many_again s t old n v element apart enough der le loose =
    let F = read_content (nested (many s)) t old.room in
    sym (as_der (many s) t old n der)
    ∙ value_is F n old.rest loose.spelled le (ap F loose.octets_are ∙ complete_content (nested (many s)) t old.room loose.spelled (both_true element apart) enough loose.valid)

-- A list of values has one ascending order.
pub one_set : (s : Shape) (v w : List (Value s)) → is_element s ≡ true → is_apart s ≡ true → AllValid s (λ x. x) v → Ascends s (λ x. x) v → Ascends s (λ x. x) w → IsPermutation v w → v ≡ w
unfolding IsBody body_octets
one_set s v w element apart valid asc other same =
    let valid' = valid_moved s (λ x. x) v w same valid in
    one_body (many s) v w (both_true element apart) valid valid' (one_arrangement s v w valid valid' asc other same)

-- Types that are encoded as they are decoded

module _ {A : Type 0} (s : Shape) (written plain : A → Value s) (agree : (x : A) → written x ≡ plain x) where
  pub views : written ≡ plain
  views = λ i x. agree x i

  -- The decoded members are valid, so none is too long.
  pub not_too_long : (read : List A) (e : Error) → TooLong s written read e → AllValid s (λ v. v) (plain_list plain read) → ⊥
  not_too_long read e long valid = long.some (subst (λ (f : A → Value s). AllValid s f read) (sym views) (valid-plain s plain read valid))

  -- A set with a member that is too long is only rejected under BER.
  pub by_ber : (old : State) (read : List A) (e : Error) (r : Result (List (Value s) × List ℕ) ErrorKind) → TooLong s written read e → (IsDer old → AllValid s (λ v. v) (plain_list plain read)) → Fails e.kind r ⊎ (IsBer old × TooLong s written read e)
  by_ber old read e r long valid = go old.source.encoding refl
    where
      go : (rules : EncodingRules) → old.source.encoding ≡ rules → Fails e.kind r ⊎ (IsBer old × TooLong s written read e)
      go encodings.Der der = absurd (not_too_long read e long (valid der))
      go encodings.Ber ber = inr (ber, long)

  set_ascends : (set : List A) → Ascends s written set → Ascends s (λ v. v) (plain_list plain set)
  set_ascends set asc = ascends-plain s plain set (subst (λ (f : A → Value s). Ascends s f set) views asc)

  -- The set is an arrangement of the decoded members.
  pub loose : (w : List ℕ) (read set : List A) → Joins s (plain_list plain read) w → IsPermutation read set → Ascends s written set → Loose s (plain_list plain set) w
  loose w read set h same asc = record { spelled = plain_list plain read; valid = h.valid; octets_are = h.octets_are; same = plain_permutation plain read set same; ascend = set_ascends set asc }

  pub spells_loosely : (b : List ℕ) (read set : List A) → Spells (tagged tags.Set (nested (many s))) (plain_list plain read) b → IsPermutation read set → Ascends s written set → SpellsLoosely s (plain_list plain set) b
  spells_loosely b read set h same asc = record { spelled = plain_list plain read; spells = h; same = plain_permutation plain read set same; ascend = set_ascends set asc }

  -- The bytes aren't the encodings of any other members.
  pub only_set : (spelled v : List (Value s)) (read set : List A) → is_element s ≡ true → is_apart s ≡ true → AllValid s (λ x. x) spelled → IsPermutation spelled v → Ascends s (λ x. x) v
      → spelled ≡ plain_list plain read → IsPermutation read set → Ascends s written set → v ≡ plain_list plain set
  only_set spelled v read set element apart valid moved asc is same ascend =
      let P : List (Value s) → Type 0 = λ u. IsPermutation u (plain_list plain set) in
      let there : IsPermutation spelled (plain_list plain set) = subst P (sym is) (plain_permutation plain read set same) in
      one_set s v (plain_list plain set) element apart (valid_moved s (λ x. x) spelled v moved valid) asc (set_ascends set ascend) (IsPermutation-trans v spelled (plain_list plain set) (IsPermutation-sym spelled v moved) there)

  pub only_loose : (w : List ℕ) (v : List (Value s)) (read set : List A) (r t : List ℕ) (x : Result (List (Value s) × List ℕ) ErrorKind) → is_element s ≡ true → is_apart s ≡ true
      → (loose : Loose s v w) → x ≡ Ok (loose.spelled, r) → x ≡ Ok (plain_list plain read, t) → IsPermutation read set → Ascends s written set → v ≡ plain_list plain set
  only_loose w v read set r t x element apart loose e d same asc =
      let is = ap (λ (q : List (Value s) × List ℕ). q.0) (ok_is {A = List (Value s) × List ℕ} (loose.spelled, r) (plain_list plain read, t) (sym e ∙ d)) in
      only_set loose.spelled v read set element apart loose.valid loose.same loose.ascend is same asc

  pub only_whole : (b : List ℕ) (v : List (Value s)) (read set : List A) → is_element s ≡ true → is_apart s ≡ true
      → (loose : SpellsLoosely s v b) → loose.spelled ≡ plain_list plain read → IsPermutation read set → Ascends s written set → v ≡ plain_list plain set
  unfolding IsValid IsContent IsBody
  only_whole b v read set element apart loose is same asc = only_set loose.spelled v read set element apart loose.spells.valid.0 loose.same loose.ascend is same asc

-- The members of a valid encoding are valid.
pub members_valid : (s : Shape) (v : List (Value s)) (b : List ℕ) → Spells (tagged tags.Set (nested (many s))) v b → AllValid s (λ x. x) v
unfolding IsValid IsContent IsBody
members_valid s v b h = h.valid.0

-- At most a number of members, in any order

pub length_plain_list : {A P : Type 0} (f : A → P) (xs : List A) → length (plain_list f xs) ≡ length xs
length_plain_list f [] = refl
length_plain_list f (x ∷ xs) = ap (λ n. suc n) (length_plain_list f xs)

pub few_joins : (k : ℕ) (s : Shape) (t : Tag) (old : State) (n : ℕ) (v : List (Value s)) (r : List ℕ) → is_apart s ≡ true → IsBytes old.rest → Fits old.rest → IsDer old → value_at (read_content_at old (nested (few k s)) t) n old.rest ≡ Ok (v, r) → Joins s v (take n old.rest)
few_joins k s t old n v r apart bytes fits der e =
    let i = inner encodings.Der (few k s) t old.room n old.rest v r (as_der (few k s) t old n der ∙ e) in
    joins kinds.Overlength s i.0 k (take n old.rest) v apart (bytes_take n old.rest bytes) (fits_take n old.rest fits) i.1

pub few_again : (k : ℕ) (s : Shape) (t : Tag) (old : State) (n : ℕ) (v : List (Value s)) → is_element s ≡ true → is_apart s ≡ true → are_content_enough (nested (few k s)) old.room ≡ true → IsDer old → n ≤ length old.rest → length v ≤ k
    → (loose : Loose s v (take n old.rest)) → value_at (read_content_at old (nested (few k s)) t) n old.rest ≡ Ok (loose.spelled, drop n old.rest)
unfolding IsContent IsBody contents body_octets
few_again k s t old n v element apart enough der le most loose =
    let F = read_content (nested (few k s)) t old.room in
    let within : length loose.spelled ≤ k = omega (arith, length_permutation loose.spelled v loose.same, most) in
    sym (as_der (few k s) t old n der)
    ∙ value_is F n old.rest loose.spelled le (ap F loose.octets_are ∙ complete_content (nested (few k s)) t old.room loose.spelled (both_true element apart) enough (loose.valid, within))

-- Encodings with a header

pub few_many : (k : ℕ) (s : Shape) (v : List (Value s)) (b : List ℕ) → Spells (tagged tags.Set (nested (few k s))) v b → Spells (tagged tags.Set (nested (many s))) v b
unfolding IsValid IsContent IsBody octets_of contents body_octets
few_many k s v b h = record { valid = (h.valid.0.0, h.valid.1, h.valid.2); octets = h.octets }

pub many_few : (k : ℕ) (s : Shape) (v : List (Value s)) (b : List ℕ) → length v ≤ k → (loose : SpellsLoosely s v b) → Spells (tagged tags.Set (nested (few k s))) loose.spelled b
unfolding IsValid IsContent IsBody octets_of contents body_octets
many_few k s v b most loose =
    let h = loose.spells in
    record { valid = ((h.valid.0, omega (arith, length_permutation loose.spelled v loose.same, most)), h.valid.1, h.valid.2); octets = h.octets }

-- Decoding in a loop

-- This many members were decoded since the start, and the last one has these bytes.
pub record Counted (s : Shape) (start : State) (last : Option (List ℕ)) (now : State) (count : ℕ) : Type 0 where
  pub values : List (Value s)
  pub long : length values ≡ count
  pub turn : InTurn not_below s (λ v. v) start last now values count

pub counted_none : (s : Shape) (start now : State) → now ≡ start → Counted s start None now 0
counted_none s start now is = subst (λ (r : State). Counted s start None r 0) (sym is) (record { values = []; long = refl; turn = none_in_turn not_below s (λ v. v) start })

pub counted_on : {s : Shape} {start now after : State} {last : Option (List ℕ)} {b : List ℕ} {i : ℕ} {x : Value s} → IsDer start → Counted s start last now i → i < length start.rest → now.rest ≢ []
    → read_at now s now.rest ≡ Ok (x, after.rest) → after ≡ record now { rest = after.rest } → IsRest after.rest now.rest → (IsDer now → b ≡ octets_of s x) → follows_last not_below last b ≡ Ok tt → Counted s start (Some b) after (i + 1)
counted_on {x = x} der h lt some e frame passed octets ok = record {
  values = h.values ++ x ∷ [];
  long = omega (arith, h.long, length-append h.values (x ∷ []));
  turn = on_in_turn h.turn der lt some e frame passed octets ok;
}

pub counted_done : {s : Shape} {start now : State} {last : Option (List ℕ)} {i n : ℕ} → IsDer start → Counted s start last now i → now.rest ≡ [] → i ≡ n → IsCount (all_in_turn not_below s start) n
counted_done der h none is =
    let values = plain_list (λ v. v) h.values in
    (values, done_in_turn h.turn der none ∙ ap (λ (r : List ℕ). Ok (values, r)) none, length_plain_list (λ v. v) h.values ∙ h.long ∙ is)

-- Decoded members

-- The members are in order, decode again one after another, and decode as members in any order.
record Ordered {P : Type 0} (how : Step) (o : P → List ℕ) (F : Readings P) (last : Option (List ℕ)) (n : ℕ) (w : List ℕ) (v : List P) (r : List ℕ) : Type 0 where
  pub ordered : OrderedFrom how o last v
  pub again : values_at F (length v) w ≡ v
  pub all : read_many kinds.TrailingData F n w ≡ Ok (v, r)

none_ordered : {P : Type 0} (how : Step) (o : P → List ℕ) (F : Readings P) (last : Option (List ℕ)) (n : ℕ) (v : List P) (r : List ℕ) → fine {A = List P × List ℕ} ([], []) ≡ fine (v, r) → Ordered how o F last n [] v r
unfolding read_many
none_ordered {P} how o F last n v r e =
    subst (λ (q : List P × List ℕ). Ordered how o F last n [] q.0 q.1) {x = ([], [])} (ok_is {A = List P × List ℕ} ([], []) (v, r) e) (record { ordered = tt; again = refl; all = refl })

ordered_read : {P : Type 0} (how : Step) (o : P → List ℕ) (F : Readings P) (last : Option (List ℕ)) (n : ℕ) (w : List ℕ) (v : List P) (r : List ℕ) → read_in_order how o F last n w ≡ Ok (v, r) → Ordered how o F last n w v r
unfolding read_in_order read_many
ordered_read how o F last zero [] v r e = none_ordered how o F last zero v r e
ordered_read how o F last zero (b ∷ w) v r e = absurd cc
ordered_read how o F last (suc n) [] v r e = none_ordered how o F last (suc n) v r e
ordered_read {P} how o F last (suc n) (b ∷ w) v r e =
    let x = bind_ok (F (b ∷ w)) (λ x. follows_last how last (o x.0) >>= λ _. read_in_order how o F (Some (o x.0)) n x.1 >>= λ y. Ok (x.0 ∷ y.0, y.1)) (v, r) e in
    let g = bind_ok (follows_last how last (o x.0.0)) (λ _. read_in_order how o F (Some (o x.0.0)) n x.0.1 >>= λ y. Ok (x.0.0 ∷ y.0, y.1)) (v, r) x.2 in
    let y = bind_ok (read_in_order how o F (Some (o x.0.0)) n x.0.1) (λ y. Ok (x.0.0 ∷ y.0, y.1)) (v, r) g.2 in
    let m = ordered_read how o F (Some (o x.0.0)) n x.0.1 y.0.0 y.0.1 y.1 in
    subst (λ (q : List P × List ℕ). Ordered how o F last (suc n) (b ∷ w) q.0 q.1) {x = (x.0.0 ∷ y.0.0, y.0.1)} (ok_is (x.0.0 ∷ y.0.0, y.0.1) (v, r) y.2)
    (record {
      ordered = order_on how o last x.0.0 y.0.0 g.1 m.ordered;
      again = ap (λ t. first_of t (values_at F (length y.0.0))) x.1 ∙ ap (λ (t : List P). x.0.0 ∷ t) m.again;
      all = ap (λ q. q >>= λ x. read_many kinds.TrailingData F n x.1 >>= λ y. Ok (x.0 ∷ y.0, y.1)) x.1 ∙ ap (λ q. q >>= λ y. Ok (x.0.0 ∷ y.0, y.1)) m.all;
    })

-- Ascending order

-- A content whose members are in ascending order is decoded to its end.
pub content_ascends : (s : Shape) (room : ℕ) (v : List (Value s)) (w : List ℕ) → is_element s ≡ true → is_apart s ≡ true → are_enough s room ≡ true → JoinsAscending s v w → read_body (ascending s) room w ≡ Ok (v, [])
unfolding body_octets IsBody
content_ascends s room v w element apart enough h =
    ap (read_body (ascending s) room) h.octets_are ∙ complete_body (ascending s) room v (both_true element apart) enough (h.valid, h.ascend)

pub record Counts (s : Shape) (room : ℕ) (w : List ℕ) (n : ℕ) : Type 0 where
  pub as_many : length (values_at (read s levels_max) n w) ≡ n
  pub some : 0 < n → 0 < length w
  pub spelled : JoinsAscending s (values_at (read s levels_max) n w) w
  pub all : read_body (ascending s) room w ≡ Ok (values_at (read s levels_max) n w, [])

some_counted : (s : Shape) (room n : ℕ) (w : List ℕ) → IsCount (read_body (ascending s) room w) n → 0 < n → 0 < length w
unfolding read_in_order
some_counted s room n [] h some =
    let none = ok_is {A = List (Value s) × List ℕ} ([], []) (h.0, []) h.1 in
    absurd (omega (arith, h.2, ap (λ (q : List (Value s) × List ℕ). length q.0) none))
some_counted s room n (b ∷ w) h some = omega arith

pub counts : (s : Shape) (room : ℕ) (w : List ℕ) (n : ℕ) → is_apart s ≡ true → room ≤ 64 → IsBytes w → Fits w → IsCount (read_body (ascending s) room w) n → Counts s room w n
counts s room w n apart most bytes fits h =
    let F = read s levels_max in
    let m = ordered_read not_below (octets_of s) F None (length w) w h.0 [] (more_body (ascending s) room 64 most w (h.0, []) h.1) in
    let j = joins kinds.TrailingData s levels_max (length w) w h.0 apart bytes fits m.all in
    let same : h.0 ≡ values_at F n w = sym m.again ∙ ap (λ k. values_at F k w) h.2 in
    record {
      as_many = ap (λ (t : List (Value s)). length t) (sym same) ∙ h.2;
      some = some_counted s room n w h;
      spelled = subst (λ (t : List (Value s)). JoinsAscending s t w) same (record { valid = j.valid; octets_are = j.octets_are; ascend = from_none not_below (octets_of s) h.0 m.ordered });
      all = h.1 ∙ ap (λ (t : List (Value s)). Ok (t, [])) same;
    }

-- Strictly ascending order

pub rising-ascends : {A : Type 0} (s : Shape) (f : A → Value s) (xs : List A) → AllRising (octets_of s) (plain_list f xs) → Ascends s f xs
rising-ascends s f [] h = tt
rising-ascends s f (x ∷ []) h = tt
rising-ascends s f (x ∷ y ∷ xs) h = ((λ v w greater. absurd (cc (h.0, greater))), rising-ascends s f (y ∷ xs) h.1)

pub content_rises : (rules : EncodingRules) (s : Shape) (t : Tag) (room n : ℕ) (w : List ℕ) (v : List (Value s)) (r : List ℕ) → value_at (read_content_by rules (nested (rising s)) t room) n w ≡ Ok (v, r) → AllRising (octets_of s) v
content_rises rules s t room n w v r e =
    let i = inner rules (rising s) t room n w v r e in
    from_none above (octets_of s) v (ordered_read above (octets_of s) (read s i.0) None (length (take n w)) (take n w) v [] i.1).ordered
