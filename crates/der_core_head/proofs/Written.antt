-- Lemmas about encoding to a writer: the written bytes are the encoding of the value, which is
-- valid if its parts are in their ranges.
use Rattle.std.proofs.lemmas.Bool.Decides.{nat_tests}
use Rattle.std.proofs.Common.{◌≡◌, ℕ, ◌+◌, Bool, true, false, List, [], ◌∷◌, ◌++◌, length, Some, None, Result, Ok, Err, refl, sym, ap, ◌∙◌, append_assoc, arith, inl, inr, ◌-◌, Option, nat_lt, if◌then◌else◌, le-ltb, append-nil, length-append, bytes_eq, IfOk}
use Rattle.std.specs.List.{flat_map, AllByRecursion}
use Rattle.der_core_head.specs.declared.error.Error.{Error}
use Rattle.der_core_head.specs.declared.error.ErrorKind.{ErrorKind}
use Rattle.der_core_head.specs.declared.error.ErrorKind.TheVariants as kinds
use Rattle.der_core_head.specs.declared.tag.Tag.{Tag}
use Rattle.der_core_head.specs.Tags.{IsTag, tag_octets}
use Rattle.der_core_head.specs.Heads.{Fits, head_octets, length_octets, tlv}
use Rattle.der_core_head.specs.Leaves.{leaf_contents, IsLeafValue}
use Rattle.der_core_head.specs.Shapes.{Step, Shape, Content, Body, tagged, any, either, optional, defaulted, nothing, leaf, nested, done, field, only, many, exactly, few, in_order, Value, ContentValue, BodyValue, octets_of, contents, body_octets, unless, AllInOrder, IsValid, IsContent, IsBody}
use Rattle.der_core_head.specs.Octets.{◌>>=◌, IsOctets}
use Rattle.der_core_head.specs.Ranges.{IsInRange, IsContentInRange, IsBodyInRange}
use Rattle.der_core_head.specs.Reading.{Gives}
use Rattle.der_core_head.specs.Writing.{Out, put, put_head, head_len, fit_len, tlv_len, both_len, many_len, default_len, size, size_content, size_body, write_tlv, write_many, all_follow, write_in_order, default_write, write, write_content, write_body, sum_len}
use Rattle.der_core_head.proofs.Results.{ok_is, follows_ok, bind_ok, ok_follows, each_alike}
use Rattle.der_core_head.proofs.HeadLaws.{fits_contents, valid_fits, head_octets-below, below-append}
use Rattle.der_core_head.proofs.TagLaws.{tag_octets-some}
use Rattle.der_core_head.proofs.LeafLaws.{leaf_below}
use Rattle.der_core_head.specs.Limits.{IsLength, length_max}
use Rattle.std.specs.Bool.{⊤}
use Rattle.der_core_head.specs.Grammar.{follows}
use Rattle.der_core_head.proofs.Complete.{complete_element}

-- Writing a valid value

-- A number of bytes, if it is a length.
abbrev pub count : ℕ → Result ℕ ErrorKind
count n = if nat_lt length_max n then Err kinds.Overflow else Ok n

pub count_ok : (n : ℕ) → IsLength n → count n ≡ Ok n
count_ok n h = rw (le-ltb length_max n (omega arith)) refl

pub count_is : (m n : ℕ) → count m ≡ Ok n → (m ≡ n) × IsLength n
count_is m n e = grind (arith, nat_tests)

tlv_counted : (t : Tag) (c : List ℕ) → tlv_len t (count (length c)) ≡ count (length (tlv t c))
unfolding tlv_len head_len tlv
tlv_counted t c = grind (arith, nat_tests, length-append (head_octets t (length c)) c)

both_counted : (a b : List ℕ) → both_len (count (length a)) (count (length b)) ≡ count (length (a ++ b))
unfolding both_len
both_counted a b = grind (arith, nat_tests, length-append a b)

many_counted : {P : Type 0} (f : P → Result ℕ ErrorKind) (o : P → List ℕ) → ((x : P) → f x ≡ count (length (o x)))
    → (xs : List P) (n : ℕ) → IsLength n → many_len f xs n ≡ count (n + length (flat_map o xs))
many_counted f o each [] n h = sym (ap count (omega arith) ∙ count_ok n h)
many_counted f o each (x ∷ xs) n h =
    let sum = length-append (o x) (flat_map o xs) in
    grind (arith, nat_tests, each x, sum, many_counted f o each xs (n + length (o x)))

all_counted : {P : Type 0} (f : P → Result ℕ ErrorKind) (o : P → List ℕ) → ((x : P) → f x ≡ count (length (o x))) → (xs : List P) → many_len f xs 0 ≡ count (length (flat_map o xs))
all_counted f o each xs = many_counted f o each xs 0 (omega arith) ∙ ap count (omega arith)

default_counted : (b : Bool) (w : List ℕ) → default_len b (count (length w)) ≡ count (length (unless b w))
unfolding default_len unless
default_counted b w = grind (arith, nat_tests)

pub fit_counted : (n : ℕ) → fit_len n ≡ count n
fit_counted n = ap count (omega arith)

-- The size of a value is the length of its encoding, or `Overflow`.
mutual
  unfolding octets_of

  pub counted : (s : Shape) (v : Value s) → size s v ≡ count (length (octets_of s v))
  counted (tagged t c) v = ap (tlv_len t) (content_counted c v) ∙ tlv_counted t (contents c v)
  counted any v = ap (tlv_len v.tag) (fit_counted (length v.contents)) ∙ tlv_counted v.tag v.contents
  counted (either a b) (inl v) = counted a v
  counted (either a b) (inr v) = counted b v
  counted (optional s) None = refl
  counted (optional s) (Some v) = counted s v
  counted (defaulted s d) v = ap (default_len (bytes_eq (octets_of s v) d)) (counted s v) ∙ default_counted (bytes_eq (octets_of s v) d) (octets_of s v)
  counted nothing v = refl

  pub content_counted : (c : Content) (v : ContentValue c) → size_content c v ≡ count (length (contents c v))
  content_counted (leaf k) v = fit_counted (length (leaf_contents k v))
  content_counted (nested b) v = body_counted b v

  pub body_counted : (b : Body) (v : BodyValue b) → size_body b v ≡ count (length (body_octets b v))
  body_counted done v = refl
  body_counted (field s b) v = rw (counted s v.0, body_counted b v.1) (both_counted (octets_of s v.0) (body_octets b v.1))
  body_counted (only s) v = counted s v
  body_counted (many s) v = all_counted (size s) (octets_of s) (λ x. counted s x) v
  body_counted (exactly n s) v = all_counted (size s) (octets_of s) (λ x. counted s x) v
  body_counted (few n s) v = all_counted (size s) (octets_of s) (λ x. counted s x) v
  body_counted (in_order how s) v = all_counted (size s) (octets_of s) (λ x. counted s x) v

-- The size of a valid value.
pub sized : (s : Shape) (v : Value s) → IsValid s v → size s v ≡ Ok (length (octets_of s v))
sized s v h = counted s v ∙ count_ok (length (octets_of s v)) (valid_fits s v h)

pub sized_content : (c : Content) (v : ContentValue c) → IsContent c v → Fits (contents c v) → size_content c v ≡ Ok (length (contents c v))
sized_content c v h fits = content_counted c v ∙ count_ok (length (contents c v)) fits

pub sized_body : (b : Body) (v : BodyValue b) → IsBody b v → Fits (body_octets b v) → size_body b v ≡ Ok (length (body_octets b v))
sized_body b v h fits = body_counted b v ∙ count_ok (length (body_octets b v)) fits

-- The state of a writer without a limit.
abbrev pub out : List ℕ → Out
out a = record { written = a; room = None; failed = false }

pub put_is : (b a : List ℕ) → put b (out a) ≡ Ok (out (a ++ b))
unfolding put
put_is b a = refl

-- Writing bytes in two calls or in one.
in_two : (a b w : List ℕ) (r : Option ℕ) (f : Bool) → (put a (record { written = w; room = r; failed = f }) >>= put b) ≡ put (a ++ b) (record { written = w; room = r; failed = f })
unfolding put
in_two a b w r true = refl
in_two a b w None false = grind (arith, append_assoc w a b)
in_two a b w (Some r) false = grind (arith, nat_tests, append_assoc w a b, length-append a b)

pub put-append : (a b : List ℕ) (o : Out) → (put a o >>= put b) ≡ put (a ++ b) o
put-append a b o = in_two a b o.written o.room o.failed

-- Members in order pass the check of the order.
pub members_follow : {P : Type 0} (how : Step) (w : P → List ℕ) (x : P) (xs : List P) → AllInOrder how w (x ∷ xs) → all_follow how w (Some (w x)) xs ≡ Ok tt
members_follow how w x [] h = refl
members_follow how w x (y ∷ xs) h = rw (follows_ok how (w x) (w y) h.0) (members_follow how w y xs h.1)

pub order_followed : {P : Type 0} (how : Step) (w : P → List ℕ) (xs : List P) → AllInOrder how w xs → all_follow how w None xs ≡ Ok tt
order_followed how w [] h = refl
order_followed how w (x ∷ xs) h = members_follow how w x xs h

bind-ok : (r : Result Out ErrorKind) → (r >>= λ z. Ok z) ≡ r
bind-ok r = grind (arith, nat_tests)

-- A set in order is written as its members are.
pub ordered_written : {P : Type 0} (how : Step) (f : P → Out → Result Out ErrorKind) (w : P → List ℕ) (xs : List P) (o : Out) → AllInOrder how w xs → write_in_order how f w xs o ≡ write_many f xs o
ordered_written how f w xs o h = rw (order_followed how w xs h) (bind-ok (write_many f xs o))

-- Writing to a writer with a limit, or one that has failed

-- A writer that has written bytes hadn't failed.
has_written : (a w : List ℕ) (room : Option ℕ) (failed : Bool) (x : Out) → put a (record { written = w; room = room; failed = failed }) ≡ Ok x → x.failed ≡ false
unfolding put
has_written a w room failed x e = grind (arith, nat_tests)

put-then : (a : List ℕ) (o : Out) (f g : Out → Result Out ErrorKind) → ((x : Out) → x.failed ≡ false → f x ≡ g x) → (put a o >>= f) ≡ (put a o >>= g)
put-then a o f g same = go (put a o) (has_written a o.written o.room o.failed)
  where
    go : (r : Result Out ErrorKind) → ((x : Out) → r ≡ Ok x → x.failed ≡ false) → (r >>= f) ≡ (r >>= g)
    go (Ok x) h = same x (h x refl)
    go (Err e) h = refl

-- Writes bytes, if there are any.
abbrev pub put_some : List ℕ → Out → Result Out ErrorKind
put_some [] o = Ok o
put_some (b ∷ w) o = put (b ∷ w) o

same_out : (w : List ℕ) (room : Option ℕ) → put [] (record { written = w; room = room; failed = false }) ≡ Ok (record { written = w; room = room; failed = false })
unfolding put
same_out w None = ap (λ (x : List ℕ). Ok (record { written = x; room = None; failed = false })) (append-nil w)
same_out w (Some n) = let all : n - 0 ≡ n = omega arith in rw (le-ltb n 0 (omega arith), all, append-nil w) refl

-- If the writer hasn't failed, writing no bytes succeeds, too.
pub put_some-put : (b : List ℕ) (o : Out) → o.failed ≡ false → put_some b o ≡ put b o
put_some-put [] o e = sym (ap (λ f. put [] (record { written = o.written; room = o.room; failed = f })) e ∙ same_out o.written o.room ∙ ap (λ f. Ok (record { written = o.written; room = o.room; failed = f })) (sym e))
put_some-put (x ∷ b) o e = refl

bind-same : (r : Result Out ErrorKind) (f g : Out → Result Out ErrorKind) → ((x : Out) → f x ≡ g x) → (r >>= f) ≡ (r >>= g)
bind-same r f g same = grind (arith, nat_tests, same)

put_some-append : (a b : List ℕ) (o : Out) → (put_some a o >>= put_some b) ≡ put_some (a ++ b) o
put_some-append [] b o = refl
put_some-append (x ∷ a) [] o = bind-ok (put (x ∷ a) o) ∙ ap (λ (w : List ℕ). put (x ∷ w) o) (sym (append-nil a))
put_some-append (x ∷ a) (y ∷ b) o = put-append (x ∷ a) (y ∷ b) o

-- A header and a content.
tlv_put : (t : Tag) (c : List ℕ) (n : Result ℕ ErrorKind) (f : Out → Result Out ErrorKind) (o : Out) → Fits (tlv t c) → n ≡ Ok (length c) → ((x : Out) → x.failed ≡ false → f x ≡ put c x)
    → write_tlv t n f o ≡ put_some (tlv t c) o
unfolding write_tlv put_head tlv head_octets
tlv_put t c n f o fits e writes =
    let k = length c in
    let sum = length-append (tag_octets t ++ length_octets k) c in
    let head : (put (tag_octets t) o >>= put (length_octets k)) ≡ put (tag_octets t ++ length_octets k) o = put-append (tag_octets t) (length_octets k) o in
    let first = tag_octets-some t in
    rw (e, le-ltb length_max (length (tag_octets t ++ length_octets k) + k) (omega (arith, sum, fits)))
    (ap (λ r. r >>= f) head ∙ put-then (tag_octets t ++ length_octets k) o f (put c) writes ∙ put-append (tag_octets t ++ length_octets k) c o
    ∙ ap (λ (w : List ℕ). put ((w ++ length_octets k) ++ c) o) first.2 ∙ sym (ap (λ (w : List ℕ). put_some ((w ++ length_octets k) ++ c) o) first.2))

default_put : (b : Bool) (w : List ℕ) (f : Out → Result Out ErrorKind) (o : Out) → f o ≡ put_some w o → default_write b f o ≡ put_some (unless b w) o
unfolding default_write unless
default_put true w f o e = refl
default_put false w f o e = e

-- The function writes these bytes, for a value in its range.
abbrev Goes : (Out → Result Out ErrorKind) → List ℕ → Type 0 → Type 0
Goes f w R = IsOctets w × R × ((o : Out) → f o ≡ put_some w o)

two_go : (f g : Out → Result Out ErrorKind) (a b : List ℕ) (R S : Type 0) → Goes f a R → Goes g b S → Goes (λ o. f o >>= g) (a ++ b) (R × S)
two_go f g a b R S p q =
    (below-append a b p.0 q.0, (p.1, q.1), λ o. ap (λ r. r >>= g) (p.2 o) ∙ bind-same (put_some a o) g (put_some b) q.2 ∙ put_some-append a b o)

all_go : {P : Type 0} (f : P → Out → Result Out ErrorKind) (w : P → List ℕ) (V R : P → Type 0) → ((x : P) → V x → Goes (f x) (w x) (R x))
    → (xs : List P) → AllByRecursion V xs → Goes (write_many f xs) (flat_map w xs) (AllByRecursion R xs)
all_go f w V R each [] h = (tt, tt, λ o. refl)
all_go f w V R each (x ∷ xs) h = two_go (f x) (write_many f xs) (w x) (flat_map w xs) (R x) (AllByRecursion R xs) (each x h.0) (all_go f w V R each xs h.1)

unless_below : (b : Bool) (w : List ℕ) → IsOctets w → IsOctets (unless b w)
unfolding unless
unless_below true w h = tt
unless_below false w h = h

tlv_below : (t : Tag) (c : List ℕ) → IsTag t → Fits (tlv t c) → IsOctets c → IsOctets (tlv t c)
unfolding tlv
tlv_below t c k fits h = below-append (head_octets t (length c)) c (head_octets-below t (length c) k (fits_contents t c fits)) h

mutual
  unfolding octets_of IsValid

  pub valid_goes : (s : Shape) (v : Value s) → IsValid s v → Goes (write s v) (octets_of s v) (IsInRange s v)
  valid_goes (tagged t c) v h =
      let p = content_goes c v h.0 in
      let size = sized_content c v h.0 (fits_contents t (contents c v) h.2) in
      (tlv_below t (contents c v) h.1 h.2 p.0, (p.1, h.1), λ o. tlv_put t (contents c v) (size_content c v) (write_content c v) o h.2 size p.2)
  valid_goes any v h =
      let size = fit_counted (length v.contents) ∙ count_ok (length v.contents) (fits_contents v.tag v.contents h.2) in
      (tlv_below v.tag v.contents h.1 h.2 h.0, (h.0, h.1), λ o. tlv_put v.tag v.contents (fit_len (length v.contents)) (put v.contents) o h.2 size (λ x e. refl))
  valid_goes (either x y) (inl v) h = valid_goes x v h
  valid_goes (either x y) (inr v) h = valid_goes y v h
  valid_goes (optional s) None h = (tt, tt, λ o. refl)
  valid_goes (optional s) (Some v) h = valid_goes s v h
  valid_goes (defaulted s d) v h =
      let p = valid_goes s v h in
      let is = bytes_eq (octets_of s v) d in
      (unless_below is (octets_of s v) p.0, (p.1, λ _. h), λ o. default_put is (octets_of s v) (write s v) o (p.2 o))
  valid_goes nothing v h = (tt, tt, λ o. refl)

  pub content_goes : (c : Content) (v : ContentValue c) → IsContent c v → IsOctets (contents c v) × IsContentInRange c v × ((o : Out) → o.failed ≡ false → write_content c v o ≡ put (contents c v) o)
  content_goes (leaf k) v h = (leaf_below k v h, h, λ o e. refl)
  content_goes (nested b) v h = let p = body_goes b v h in (p.0, p.1, λ o e. p.2 o ∙ put_some-put (body_octets b v) o e)

  pub body_goes : (b : Body) (v : BodyValue b) → IsBody b v → Goes (write_body b v) (body_octets b v) (IsBodyInRange b v)
  body_goes done v h = (tt, tt, λ o. refl)
  body_goes (field s b) v h = two_go (write s v.0) (write_body b v.1) (octets_of s v.0) (body_octets b v.1) (IsInRange s v.0) (IsBodyInRange b v.1) (valid_goes s v.0 h.0) (body_goes b v.1 h.1)
  body_goes (only s) v h = valid_goes s v h
  body_goes (many s) v h = all_go (write s) (octets_of s) (λ x. IsValid s x) (λ x. IsInRange s x) (λ x k. valid_goes s x k) v h
  body_goes (exactly n s) v h = let p = all_go (write s) (octets_of s) (λ x. IsValid s x) (λ x. IsInRange s x) (λ x k. valid_goes s x k) v h.0 in (p.0, (p.1, h.1), p.2)
  body_goes (few n s) v h = let p = all_go (write s) (octets_of s) (λ x. IsValid s x) (λ x. IsInRange s x) (λ x k. valid_goes s x k) v h.0 in (p.0, (p.1, h.1), p.2)
  body_goes (in_order how s) v h =
      let p = all_go (write s) (octets_of s) (λ x. IsValid s x) (λ x. IsInRange s x) (λ x k. valid_goes s x k) v h.0 in
      (p.0, p.1, λ o. ordered_written how (write s) (octets_of s) v o h.1 ∙ p.2 o)

pub put_written : (s : Shape) (v : Value s) (o : Out) → IsValid s v → write s v o ≡ put_some (octets_of s v) o
put_written s v o h = (valid_goes s v h).2 o

pub put_content : (c : Content) (v : ContentValue c) (o : Out) → o.failed ≡ false → IsContent c v → write_content c v o ≡ put (contents c v) o
put_content c v o e h = (content_goes c v h).2 o e

pub put_body : (b : Body) (v : BodyValue b) (o : Out) → IsBody b v → write_body b v o ≡ put_some (body_octets b v) o
put_body b v o h = (body_goes b v h).2 o

-- Writing to a writer without a limit.
put_out : (b a : List ℕ) → put_some b (out a) ≡ Ok (out (a ++ b))
put_out b a = put_some-put b (out a) refl ∙ put_is b a

pub written : (s : Shape) (v : Value s) (a : List ℕ) → IsValid s v → write s v (out a) ≡ Ok (out (a ++ octets_of s v))
written s v a h = put_written s v (out a) h ∙ put_out (octets_of s v) a

-- A value whose length isn't valid isn't written; the error is that of its size.
tlv_unsized : (t : Tag) (n : Result ℕ ErrorKind) (f : Out → Result Out ErrorKind) (o : Out) (k : ErrorKind) → tlv_len t n ≡ Err k → write_tlv t n f o ≡ Err k
unfolding tlv_len head_len write_tlv put_head
tlv_unsized t (Ok n) f o k e = rw e refl
tlv_unsized t (Err d) f o k e =
    let same : d ≡ k = cc in
    rw same refl

default_unsized : (b : Bool) (n : Result ℕ ErrorKind) (f : Out → Result Out ErrorKind) (o : Out) (k : ErrorKind) → (n ≡ Err k → f o ≡ Err k) → default_len b n ≡ Err k → default_write b f o ≡ Err k
unfolding default_len default_write
default_unsized true n f o k each e = absurd cc
default_unsized false n f o k each e = each e

pub unsized : (s : Shape) (v : Value s) (o : Out) (k : ErrorKind) → size s v ≡ Err k → write s v o ≡ Err k
unsized (tagged t c) v o k e = tlv_unsized t (size_content c v) (write_content c v) o k e
unsized any v o k e = tlv_unsized v.tag (fit_len (length v.contents)) (put v.contents) o k e
unsized (either a b) (inl v) o k e = unsized a v o k e
unsized (either a b) (inr v) o k e = unsized b v o k e
unsized (optional s) None o k e = absurd cc
unsized (optional s) (Some v) o k e = unsized s v o k e
unsized (defaulted s d) v o k e = default_unsized (bytes_eq (octets_of s v) d) (size s v) (write s v) o k (unsized s v o k) e
unsized nothing v o k e = absurd cc

-- The result of a call that encodes to an empty writer.
pub is_written : {T : Type 0} (s : Shape) (v : Value s) (items : T → List ℕ) (r : Result T Error) → IsValid s v
    → Gives (λ x. out (items x)) r (write s v (out [])) → Gives items r (Ok (octets_of s v))
is_written s v items (Ok x) h e = ap (λ (w : List ℕ). Ok w) (ap (λ (o : Out). o.written) (ok_is (out (octets_of s v)) (out (items x)) (sym (written s v [] h) ∙ e)))
is_written s v items (Err d) h e = λ memory. absurd (cc (written s v [] h, e memory))

-- Successful calls: the written bytes are the encoding, whether or not the value is valid

-- If the size is returned, it is the length of the encoding, and at most `length_max`.
pub counts_octets : (s : Shape) (v : Value s) (n : ℕ) → size s v ≡ Ok n → (n ≡ length (octets_of s v)) × Fits (octets_of s v)
counts_octets s v n e = grind (arith, nat_tests, counted s v)

-- The number of written bytes is at most `length_max`.
pub writes_fitting : (s : Shape) (v : Value s) (o z : Out) → write s v o ≡ Ok z → Fits (octets_of s v)
writes_fitting s v o z e = grind (arith, nat_tests, counted s v, unsized s v o kinds.Overflow)

-- The function appends these bytes, and a value in its range is valid.
abbrev Does : (Out → Result Out ErrorKind) → List ℕ → Type 0 → Type 0 → Type 0
Does f w R V = (o z : Out) → f o ≡ Ok z → (z.written ≡ o.written ++ w) × (R → V)

none_done : {R : Type 0} → Does (λ o. Ok o) [] R ⊤
none_done o z e = (ap (λ (x : Out). x.written) (sym (ok_is o z e)) ∙ sym (append-nil o.written), λ _. tt)

put_done : (b : List ℕ) (R : Type 0) → Does (put b) b R R
unfolding put
put_done b R o z e = (grind arith, λ r. r)

two_done : (f g : Out → Result Out ErrorKind) (a b : List ℕ) (R S V W : Type 0) → Does f a R V → Does g b S W → Does (λ o. f o >>= g) (a ++ b) (R × S) (V × W)
two_done f g a b R S V W first second o z e =
    let h = bind_ok (f o) g z e in
    let p = first o h.0 h.1 in
    let q = second h.0 z h.2 in
    (q.0 ∙ ap (λ w. w ++ b) p.0 ∙ append_assoc o.written a b, λ r. (p.1 r.0, q.1 r.1))

head_appended : (t : Tag) (n : ℕ) (o z : Out) → (put (tag_octets t) o >>= put (length_octets n)) ≡ Ok z → z.written ≡ o.written ++ head_octets t n
unfolding head_octets
head_appended t n o z e = (put_done (tag_octets t ++ length_octets n) ⊤ o z (sym (put-append (tag_octets t) (length_octets n) o) ∙ e)).0

tlv_done : (t : Tag) (c : List ℕ) (n : Result ℕ ErrorKind) (f : Out → Result Out ErrorKind) (R V : Type 0) → n ≡ count (length c) → Does f c R V
    → Does (write_tlv t n f) (tlv t c) (R × IsTag t) (V × IsTag t × Fits (tlv t c))
unfolding write_tlv put_head tlv
tlv_done t c n f R V counts inner o z e =
    let m = bind_ok n (λ n. put_head t n o >>= f) z e in
    let same = (count_is (length c) m.0 (sym counts ∙ m.1)).0 in
    let h = bind_ok (put_head t m.0 o) f z m.2 in
    let k = bind_ok (sum_len (length (head_octets t m.0)) m.0) (λ _. put (tag_octets t) o >>= put (length_octets m.0)) h.0 h.1 in
    let sum = count_is (length (head_octets t m.0) + m.0) k.0 k.1 in
    let p = inner h.0 z h.2 in
    let head : length (head_octets t (length c)) ≡ length (head_octets t m.0) = ap (λ n. length (head_octets t n)) same in (
      p.0 ∙ ap (λ w. w ++ c) (head_appended t m.0 o h.0 k.2) ∙ append_assoc o.written (head_octets t m.0) c ∙ ap (λ n. o.written ++ (head_octets t n ++ c)) (sym same),
      λ r. (p.1 r.0, r.1, omega (arith, sum.0, sum.1, same, head, length-append (head_octets t (length c)) c)),
    )

pub many_done : {P : Type 0} (f : P → Out → Result Out ErrorKind) (w : P → List ℕ) (R V : P → Type 0) → ((x : P) → Does (f x) (w x) (R x) (V x))
    → (xs : List P) → Does (write_many f xs) (flat_map w xs) (AllByRecursion R xs) (AllByRecursion V xs)
many_done f w R V each [] = none_done
many_done f w R V each (x ∷ xs) = two_done (f x) (write_many f xs) (w x) (flat_map w xs) (R x) (AllByRecursion R xs) (V x) (AllByRecursion V xs) (each x) (many_done f w R V each xs)

-- A list that was written is valid if it also has the required number of members.
so_many : {R V X : Type 0} (f : Out → Result Out ErrorKind) (w : List ℕ) → Does f w R V → Does f w (R × X) (V × X)
so_many f w inner o z e = let p = inner o z e in (p.0, λ r. (p.1 r.0, r.1))

follow_all : {P : Type 0} (how : Step) (w : P → List ℕ) (x : P) (xs : List P) (y : Unit {0}) → all_follow how w (Some (w x)) xs ≡ Ok y → AllInOrder how w (x ∷ xs)
follow_all how w x [] y e = tt
follow_all how w x (b ∷ xs) y e =
    let p = bind_ok (follows how (w x) (w b)) (λ _. all_follow how w (Some (w b)) xs) y e in
    (ok_follows how (w x) (w b) p.0 p.1, follow_all how w b xs y p.2)

all_in_order : {P : Type 0} (how : Step) (w : P → List ℕ) (xs : List P) (y : Unit {0}) → all_follow how w None xs ≡ Ok y → AllInOrder how w xs
all_in_order how w [] y e = tt
all_in_order how w (x ∷ xs) y e = follow_all how w x xs y e

-- A set that was written is in order.
ordered_done : {P : Type 0} (how : Step) (f : P → Out → Result Out ErrorKind) (w : P → List ℕ) (R V : P → Type 0) → ((x : P) → Does (f x) (w x) (R x) (V x))
    → (xs : List P) → Does (write_in_order how f w xs) (flat_map w xs) (AllByRecursion R xs) (AllByRecursion V xs × AllInOrder how w xs)
ordered_done how f w R V each xs o z e =
    let h = bind_ok (write_many f xs o) (λ y. all_follow how w None xs >>= λ _. Ok y) z e in
    let k = bind_ok (all_follow how w None xs) (λ _. Ok h.0) z h.2 in
    let p = many_done f w R V each xs o z (h.1 ∙ k.2) in
    (p.0, λ r. (p.1 r, all_in_order how w xs k.0 k.1))

default_done : (b : Bool) (w : List ℕ) (f : Out → Result Out ErrorKind) (R V : Type 0) → Does f w R V → Does (default_write b f) (unless b w) (R × (b ≡ true → V)) V
unfolding default_write unless
default_done true w f R V inner o z e = ((none_done {R = R} o z e).0, λ r. r.1 refl)
default_done false w f R V inner o z e = let p = inner o z e in (p.0, λ r. p.1 r.0)

mutual
  unfolding octets_of IsValid

  pub wrote : (s : Shape) (v : Value s) → Does (write s v) (octets_of s v) (IsInRange s v) (IsValid s v)
  wrote (tagged t c) v = tlv_done t (contents c v) (size_content c v) (write_content c v) (IsContentInRange c v) (IsContent c v) (content_counted c v) (wrote_content c v)
  wrote any v = tlv_done v.tag v.contents (fit_len (length v.contents)) (put v.contents) (IsOctets v.contents) (IsOctets v.contents) (fit_counted (length v.contents)) (put_done v.contents (IsOctets v.contents))
  wrote (either x y) (inl v) = wrote x v
  wrote (either x y) (inr v) = wrote y v
  wrote (optional s) None = none_done
  wrote (optional s) (Some v) = wrote s v
  wrote (defaulted s d) v = default_done (bytes_eq (octets_of s v) d) (octets_of s v) (write s v) (IsInRange s v) (IsValid s v) (wrote s v)
  wrote nothing v = none_done

  pub wrote_content : (c : Content) (v : ContentValue c) → Does (write_content c v) (contents c v) (IsContentInRange c v) (IsContent c v)
  wrote_content (leaf k) v = put_done (leaf_contents k v) (IsLeafValue k v)
  wrote_content (nested b) v = wrote_body b v

  wrote_body : (b : Body) (v : BodyValue b) → Does (write_body b v) (body_octets b v) (IsBodyInRange b v) (IsBody b v)
  wrote_body done v = none_done
  wrote_body (field s b) v =
      two_done (write s v.0) (write_body b v.1) (octets_of s v.0) (body_octets b v.1) (IsInRange s v.0) (IsBodyInRange b v.1) (IsValid s v.0) (IsBody b v.1) (wrote s v.0) (wrote_body b v.1)
  wrote_body (only s) v = wrote s v
  wrote_body (many s) v = many_done (write s) (octets_of s) (λ x. IsInRange s x) (λ x. IsValid s x) (λ x. wrote s x) v
  wrote_body (exactly n s) v = so_many (write_many (write s) v) (flat_map (octets_of s) v) (many_done (write s) (octets_of s) (λ x. IsInRange s x) (λ x. IsValid s x) (λ x. wrote s x) v)
  wrote_body (few n s) v = so_many (write_many (write s) v) (flat_map (octets_of s) v) (many_done (write s) (octets_of s) (λ x. IsInRange s x) (λ x. IsValid s x) (λ x. wrote s x) v)
  wrote_body (in_order how s) v = ordered_done how (write s) (octets_of s) (λ x. IsInRange s x) (λ x. IsValid s x) (λ x. wrote s x) v

pub writes_octets : (s : Shape) (v : Value s) (o z : Out) → write s v o ≡ Ok z → z.written ≡ o.written ++ octets_of s v
writes_octets s v o z e = (wrote s v o z e).0

pub writes_contents : (c : Content) (v : ContentValue c) (o z : Out) → write_content c v o ≡ Ok z → z.written ≡ o.written ++ contents c v
writes_contents c v o z e = (wrote_content c v o z e).0

-- The result of a call that encodes to an empty writer.
pub ok_octets : {T : Type 0} (s : Shape) (v : Value s) (items : T → List ℕ) (r : Result T Error) → Gives (λ x. record { written = items x; room = None; failed = false }) r (write s v (record { written = []; room = None; failed = false }))
    → IfOk r (λ x. (items x ≡ octets_of s v) × Fits (items x))
ok_octets s v items (Ok x) e =
    let same = writes_octets s v (out []) (out (items x)) e in
    (same, omega (arith, ap length same, writes_fitting s v (out []) (out (items x)) e))
ok_octets s v items (Err d) e = tt

-- A value that was written is valid exactly if its parts are in their ranges

pub written_valid : (s : Shape) (v : Value s) (o z : Out) → write s v o ≡ Ok z → IsInRange s v → IsValid s v
written_valid s v o z e h = (wrote s v o z e).1 h

pub content_valid : (c : Content) (v : ContentValue c) (o z : Out) → write_content c v o ≡ Ok z → IsContentInRange c v → IsContent c v
content_valid c v o z e h = (wrote_content c v o z e).1 h

-- The members of a list that was written.
pub list_valid : (s : Shape) (v : List (Value s)) (o z : Out) → write_many (write s) v o ≡ Ok z → AllByRecursion (λ x. IsInRange s x) v → AllByRecursion (λ x. IsValid s x) v
list_valid s v o z e h = (many_done (write s) (octets_of s) (λ x. IsInRange s x) (λ x. IsValid s x) (λ x. wrote s x) v o z e).1 h

pub valid_in_range : (s : Shape) (v : Value s) → IsValid s v → IsInRange s v
valid_in_range s v h = (valid_goes s v h).1

pub list_in_range : (s : Shape) (v : List (Value s)) → AllByRecursion (λ x. IsValid s x) v → AllByRecursion (λ x. IsInRange s x) v
list_in_range s v h = each_alike (λ x. IsValid s x) (λ x. IsInRange s x) (λ x k. valid_in_range s x k) v h

pub ruleset as_written = (writes_octets, writes_fitting, written_valid, complete_element)
