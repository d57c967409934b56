-- Lemmas: values with the same encoding are equal (`one_encoding`), and bytes that were decoded are
-- the encoding of the result.
use Rattle.std.proofs.Common.{arith, ◌≡◌, ℕ, Bool, true, false, List, [], ◌∷◌, ◌++◌, Some, None, refl, sym, ap, subst, ◌∙◌, inl, inr, bytes_eq, zero, suc, ◌≤◌, cond, ltb, length, take, drop, take_at, Option, Result, Ok, Err, append_assoc, ◌⊎◌, append-nil, take-append-drop, length-take, le-ltb, IfOk}
use mathlib.Core.Bool.{◌&&◌}
use Rattle.std.proofs.lemmas.Bool.Decides.{nat_tests}
use Rattle.std.proofs.lemmas.Bool.{and_parts, false≢true, ltb-true}
use Rattle.std.proofs.lemmas.Slice.Eq.{bytes_eq-Decides}
use Rattle.std.specs.List.{flat_map, AllByRecursion}
use Rattle.der_core_head.specs.declared.encoding_rules.EncodingRules.TheVariants as encodings
use Rattle.der_core_head.specs.declared.tag.Tag.{Tag}
use Rattle.der_core_head.specs.declared.tag.Tag.TheVariants as tags
use Rattle.der_core_head.specs.Tags.{tag_at, IsTag, same_tag}
use Rattle.der_core_head.specs.Shapes.{Shape, Content, Body, tagged, any, either, optional, defaulted, nothing, leaf, nested, done, field, only, many, exactly, few, in_order, Value, ContentValue, BodyValue, AnyValue, octets_of, contents, body_octets, unless, IsValid, IsContent, IsBody, begins, Step, Follows, AllInOrder, Spells}
use Rattle.der_core_head.specs.Spelling.{is_apart, is_content_apart, is_body_apart, is_element, none_of, are_enough}
use Rattle.der_core_head.specs.Leaves.{leaf_read}
use Rattle.der_core_head.specs.Grammar.{peek_at, read, read_content, read_body, read_many, read_exactly, read_in_order, follows_last, tlv_at, any_at, chosen, opt_after, opt_at, default_after, default_at, either_at, value_at, slice_at, leaf_at, read_whole}
use Rattle.der_core_head.proofs.Results.{ok_is, bind_ok, if_ok, either_ok, IsBytes, bytes_take, bytes_rest, octets_are, ok_follows}
use Rattle.der_core_head.proofs.HeadLaws.{fits_contents, split-tlv, fits_front, fits_rest, head_sound, valid_fits}
use Rattle.der_core_head.proofs.TagLaws.{tag_again, same_tags}
use Rattle.der_core_head.proofs.LeafLaws.{leaf_again, leaf_sound}
use Rattle.der_core_head.proofs.Complete.{StandsFirst, StopsBefore, Stops, first_more, element_first, element_some, peek_again, not_begins, next_stops, stops_element, stops_end, complete}
use Rattle.std.specs.Bool.{⊤}
use Rattle.der_core_head.specs.declared.error.ErrorKind.{ErrorKind}
use Rattle.der_core_head.specs.declared.error.ErrorKind.TheVariants as kinds
use Rattle.der_core_head.specs.Octets.{IsOctets, are_octets, ◌>>=◌, Readings}
use Rattle.der_core_head.specs.Heads.{Fits, head_at, head_octets, tlv}
use Rattle.der_core_head.specs.declared.error.Error.{Error}
use Rattle.der_core_head.specs.Reading.{Gives}
use Rattle.der_core_head.specs.Limits.{length_max}
use Rattle.der_core_head.proofs.Written.{valid_goes}

-- Part 1: valid values with the same encoding are equal, at any depth of nesting.

-- Bytes can't begin with one of these tags and also stop before them.
none_stands : (first : Tag → Bool) (b : List ℕ) → StandsFirst first b → StopsBefore first b → ⊥
none_stands first b f h =
    let t : Some f.0 ≡ h.0 = ok_is (Some f.0) h.0 (sym (peek_again f.0 f.1 f.3) ∙ ap (peek_at encodings.Der) (sym f.2) ∙ h.1) in
    absurd (cc (h.2, t, f.4))

-- Bytes can't begin both with a first tag of the shape and with one of these tags, if the two have
-- none in common.
none_both : (a : Shape) (first : Tag → Bool) (b : List ℕ) → none_of a first ≡ true → StandsFirst (begins a) b → StandsFirst first b → ⊥
none_both a first b n f g =
    let same = ok_is (f.0, f.1) (g.0, g.1) (sym (tag_again f.0 f.1 f.3) ∙ ap tag_at (sym f.2 ∙ g.2) ∙ tag_again g.0 g.1 g.3) in
    let tag : f.0 ≡ g.0 = ap (λ (x : Tag × List ℕ). x.0) same in
    absurd (false≢true (sym (not_begins a first g.0 n g.4) ∙ ap (begins a) (sym tag) ∙ f.4))

-- The two values are equal, and so are the two remainders.
abbrev AreOne : {P : Type 0} → P → P → List ℕ → List ℕ → Type 0
AreOne v w r t = (v ≡ w) × (r ≡ t)

-- If the encodings of two lists are equal, so are the lists. They have the same length because no
-- encoding is empty. `one` is the same fact for their members.
one_list : (s : Shape) → (is_element s && is_apart s) ≡ true
    → ((v w : Value s) (r t : List ℕ) → IsValid s v → IsValid s w → Stops s r → Stops s t → octets_of s v ++ r ≡ octets_of s w ++ t → AreOne v w r t)
    → (v w : List (Value s)) → AllByRecursion (IsValid s) v → AllByRecursion (IsValid s) w → flat_map (octets_of s) v ≡ flat_map (octets_of s) w → v ≡ w
one_list s a one [] [] h k e = refl
one_list s a one [] (y ∷ ys) h k e = let f = element_some s y (and_parts (is_element s) (is_apart s) a).0 k.0 in absurd (cc (e, f.2))
one_list s a one (x ∷ xs) [] h k e = let f = element_some s x (and_parts (is_element s) (is_apart s) a).0 h.0 in absurd (cc (e, f.2))
one_list s a one (x ∷ xs) (y ∷ ys) h k e =
    let element = (and_parts (is_element s) (is_apart s) a).0 in
    let r = flat_map (octets_of s) xs in
    let t = flat_map (octets_of s) ys in
    let first = one x y r t h.0 k.0 (stops_element s r element) (stops_element s t element) e in
    cc (first.0, one_list s a one xs ys h.1 k.1 first.1)

-- A value with a default: the default is omitted, and every other value is encoded.
one_default : (s : Shape) (d : List ℕ) (v w : Value s) (r t : List ℕ) (b c : Bool) → bytes_eq (octets_of s v) d ≡ b → bytes_eq (octets_of s w) d ≡ c
    → StandsFirst (begins s) (octets_of s v) → StandsFirst (begins s) (octets_of s w) → StopsBefore (begins s) r → StopsBefore (begins s) t
    → ((x y : List ℕ) → octets_of s v ++ x ≡ octets_of s w ++ y → AreOne v w x y)
    → unless b (octets_of s v) ++ r ≡ unless c (octets_of s w) ++ t → AreOne v w r t
unfolding unless
one_default s d v w r t true true is js f g stops ends one e =
    let both : octets_of s v ≡ octets_of s w = (bytes_eq-Decides (octets_of s v) d).0 is ∙ sym ((bytes_eq-Decides (octets_of s w) d).0 js) in
    ((one [] [] (ap (λ (x : List ℕ). x ++ []) both)).0, e)
one_default s d v w r t true false is js f g stops ends one e =
    absurd (none_stands (begins s) (octets_of s w ++ t) (first_more (begins s) (octets_of s w) t g) (subst (StopsBefore (begins s)) e stops))
one_default s d v w r t false true is js f g stops ends one e =
    absurd (none_stands (begins s) (octets_of s v ++ r) (first_more (begins s) (octets_of s v) r f) (subst (StopsBefore (begins s)) (sym e) ends))
one_default s d v w r t false false is js f g stops ends one e = one r t e

-- Values of any type are equal if their tags and contents are.
same_any : (v w : AnyValue) → v.tag ≡ w.tag → v.contents ≡ w.contents → v ≡ w
same_any v w tag contents = rw (← tag, ← contents) refl

-- Pairs are equal if their parts are.
same_pair : {A B : Type 0} (v w : A × B) → v.0 ≡ w.0 → v.1 ≡ w.1 → v ≡ w
same_pair v w first second = rw (← first, ← second) refl

mutual
  unfolding octets_of IsValid

  -- If the encodings of two valid values, each followed by a remainder, are the same bytes, the
  -- values are equal, and so are the remainders. A remainder must not begin with a tag that could
  -- still belong to the value (`Stops`).
  pub one_encoding : (s : Shape) (v w : Value s) (r t : List ℕ) → is_apart s ≡ true → IsValid s v → IsValid s w → Stops s r → Stops s t
      → octets_of s v ++ r ≡ octets_of s w ++ t → (v ≡ w) × (r ≡ t)
  one_encoding (tagged u c) v w r t a h k o p e =
      let parts = split-tlv u u (contents c v) (contents c w) r t h.1 k.1 (fits_contents u (contents c v) h.2) (fits_contents u (contents c w) k.2) e in
      (one_content c v w a h.0 k.0 parts.1, parts.2)
  one_encoding any v w r t a h k o p e =
      let parts = split-tlv v.tag w.tag v.contents w.contents r t h.1 k.1 (fits_contents v.tag v.contents h.2) (fits_contents w.tag w.contents k.2) e in
      (same_any v w parts.0 parts.1, parts.2)
  one_encoding (either x y) (inl v) (inl w) r t a h k o p e =
      let one = one_encoding x v w r t (grind (arith, nat_tests)) h k (stops_element x r (grind (arith, nat_tests))) (stops_element x t (grind (arith, nat_tests))) e in
      (ap inl one.0, one.1)
  one_encoding (either x y) (inr v) (inr w) r t a h k o p e =
      let one = one_encoding y v w r t (grind (arith, nat_tests)) h k (stops_element y r (grind (arith, nat_tests))) (stops_element y t (grind (arith, nat_tests))) e in
      (ap inr one.0, one.1)
  one_encoding (either x y) (inl v) (inr w) r t a h k o p e =
      let f = first_more (begins x) (octets_of x v) r (element_first x v (grind (arith, nat_tests)) h) in
      let g = first_more (begins y) (octets_of y w) t (element_first y w (grind (arith, nat_tests)) k) in
      absurd (none_both x (begins y) (octets_of x v ++ r) (grind (arith, nat_tests)) f (subst (StandsFirst (begins y)) (sym e) g))
  one_encoding (either x y) (inr v) (inl w) r t a h k o p e =
      let f = first_more (begins x) (octets_of x w) t (element_first x w (grind (arith, nat_tests)) k) in
      let g = first_more (begins y) (octets_of y v) r (element_first y v (grind (arith, nat_tests)) h) in
      absurd (none_both x (begins y) (octets_of x w ++ t) (grind (arith, nat_tests)) f (subst (StandsFirst (begins y)) e g))
  one_encoding (optional s) None None r t a h k o p e = (refl, e)
  one_encoding (optional s) None (Some w) r t a h k o p e =
      absurd (none_stands (begins s) (octets_of s w ++ t) (first_more (begins s) (octets_of s w) t (element_first s w (grind (arith, nat_tests)) k)) (subst (StopsBefore (begins s)) e (o refl)))
  one_encoding (optional s) (Some v) None r t a h k o p e =
      absurd (none_stands (begins s) (octets_of s v ++ r) (first_more (begins s) (octets_of s v) r (element_first s v (grind (arith, nat_tests)) h)) (subst (StopsBefore (begins s)) (sym e) (p refl)))
  one_encoding (optional s) (Some v) (Some w) r t a h k o p e =
      let one = one_encoding s v w r t (grind (arith, nat_tests)) h k (stops_element s r (grind (arith, nat_tests))) (stops_element s t (grind (arith, nat_tests))) e in
      (ap Some one.0, one.1)
  one_encoding (defaulted s d) v w r t a h k o p e =
      one_default s d v w r t (bytes_eq (octets_of s v) d) (bytes_eq (octets_of s w) d) refl refl (element_first s v (grind (arith, nat_tests)) h) (element_first s w (grind (arith, nat_tests)) k) (o refl) (p refl)
      (λ x y. one_encoding s v w x y (grind (arith, nat_tests)) h k (stops_element s x (grind (arith, nat_tests))) (stops_element s y (grind (arith, nat_tests)))) e
  one_encoding nothing v w r t a h k o p e = (refl, e)

  -- Two valid contents with the same bytes are equal.
  pub one_content : (c : Content) (v w : ContentValue c) → is_content_apart c ≡ true → IsContent c v → IsContent c w → contents c v ≡ contents c w → v ≡ w
  one_content (leaf l) v w a h k e = ok_is v w (sym (leaf_again l tags.Null v h) ∙ ap (leaf_read l tags.Null) e ∙ leaf_again l tags.Null w k)
  one_content (nested b) v w a h k e = one_body b v w a h k e

  -- Two valid bodies with the same bytes are equal.
  pub one_body : (b : Body) (v w : BodyValue b) → is_body_apart b ≡ true → IsBody b v → IsBody b w → body_octets b v ≡ body_octets b w → v ≡ w
  one_body done v w a h k e = refl
  one_body (field s b) v w a h k e =
      let first = one_encoding s v.0 w.0 (body_octets b v.1) (body_octets b w.1) (grind (arith, nat_tests)) h.0 k.0 (next_stops s b v.1 (grind (arith, nat_tests)) (grind (arith, nat_tests)) h.1) (next_stops s b w.1 (grind (arith, nat_tests)) (grind (arith, nat_tests)) k.1) e in
      same_pair v w first.0 (one_body b v.1 w.1 (grind (arith, nat_tests)) h.1 k.1 first.1)
  one_body (only s) v w a h k e =
      (one_encoding s v w [] [] (grind (arith, nat_tests)) h k (stops_end s) (stops_end s) (ap (λ (x : List ℕ). x ++ []) e)).0
  one_body (many s) v w a h k e = one_list s a (λ x y r t. one_encoding s x y r t (grind (arith, nat_tests))) v w h k e
  one_body (exactly n s) v w a h k e = one_list s a (λ x y r t. one_encoding s x y r t (grind (arith, nat_tests))) v w h.0 k.0 e
  one_body (few n s) v w a h k e = one_list s a (λ x y r t. one_encoding s x y r t (grind (arith, nat_tests))) v w h.0 k.0 e
  one_body (in_order how s) v w a h k e = one_list s a (λ x y r t. one_encoding s x y r t (grind (arith, nat_tests))) v w h.0 k.0 e

-- Elements have one encoding whatever bytes follow.
pub one_value : (s : Shape) (v w : Value s) (r t : List ℕ) → is_element s ≡ true → is_apart s ≡ true → IsValid s v → IsValid s w
    → octets_of s v ++ r ≡ octets_of s w ++ t → (v ≡ w) × (r ≡ t)
one_value s v w r t element apart h k e = one_encoding s v w r t apart h k (stops_element s r element) (stops_element s t element) e

-- Part 2: bytes that were decoded are the encoding of the result.

-- Three consecutive parts of some bytes.
pub joined : (a b c rest w : List ℕ) → w ≡ a ++ rest → rest ≡ b ++ c → w ≡ (a ++ b) ++ c
joined a b c rest w e s = e ∙ ap (λ (x : List ℕ). a ++ x) s ∙ sym (append_assoc a b c)

slice_sound : (n : ℕ) (w x r : List ℕ) → slice_at n w ≡ Ok (x, r) → (length x ≡ n) × (w ≡ x ++ r)
unfolding slice_at
slice_sound n w x r e = grind (arith, nat_tests, length-take n w, take-append-drop n w)

pub value_sound : {P : Type 0} (F : Readings P) (n : ℕ) (w : List ℕ) (p : P) (r : List ℕ) → value_at F n w ≡ Ok (p, r) → (n ≤ length w) × (F (take n w) ≡ Ok (p, [])) × (r ≡ drop n w)
unfolding value_at
value_sound {P} F n w p r e = (grind (arith, nat_tests), grind (arith, nat_tests), grind (arith, nat_tests))

-- A header and as many bytes as its length are an encoding.
tlv_is : (t : Tag) (n : ℕ) (c r rest w : List ℕ) → w ≡ head_octets t n ++ rest → length c ≡ n → rest ≡ c ++ r → w ≡ tlv t c ++ r
unfolding tlv
tlv_is t n c r rest w e l s = joined (head_octets t (length c)) c r rest w (e ∙ ap (λ k. head_octets t k ++ rest) (sym l)) s

tlv_sound : {P : Type 0} (t : Tag) (F : Readings P) (w : List ℕ) (p : P) (r : List ℕ) → IsBytes w → Fits w → tlv_at encodings.Der t F w ≡ Ok (p, r)
    → (c : List ℕ) × IsBytes c × (F c ≡ Ok (p, [])) × IsTag t × Fits (tlv t c) × (w ≡ tlv t c ++ r)
unfolding tlv_at
tlv_sound t F w p r bytes fits e =
    let h = bind_ok (head_at w) (λ h. cond (same_tag h.0.tag t) (value_at F h.0.len h.1) (Err kinds.TagUnexpected)) (p, r) e in
    let i = if_ok (same_tag h.0.0.tag t) kinds.TagUnexpected (value_at F h.0.0.len h.0.1) (p, r) h.2 in
    let hd = head_sound w h.0.0 h.0.1 bytes h.1 in
    let n = h.0.0.len in
    let v = value_sound F n h.0.1 p r i.1 in
    let c = take n h.0.1 in
    let tag : h.0.0.tag ≡ t = same_tags h.0.0.tag t i.0 in
    let len : length c ≡ n = omega (arith, length-take n h.0.1, v.0) in
    let rest : h.0.1 ≡ c ++ r = sym (take-append-drop n h.0.1) ∙ ap (λ (x : List ℕ). c ++ x) (sym v.2) in
    let is : w ≡ tlv t c ++ r = tlv_is t n c r h.0.1 w (hd.0 ∙ ap (λ k. head_octets k n ++ h.0.1) tag) len rest in
    (c, bytes_take n h.0.1 (bytes_rest (head_octets h.0.0.tag n) h.0.1 w hd.0 bytes), v.1, subst IsTag tag hd.1, fits_front (tlv t c) r w is fits, is)

bytes_front : (u r w : List ℕ) → w ≡ u ++ r → IsBytes w → IsBytes u
bytes_front u r w e h = subst IsBytes (ap (take (length u)) e ∙ take_at u r (length u) refl) (bytes_take (length u) w h)

any_sound : (w : List ℕ) (v : AnyValue) (r : List ℕ) → IsBytes w → Fits w → any_at encodings.Der w ≡ Ok (v, r)
    → IsOctets v.contents × IsTag v.tag × Fits (tlv v.tag v.contents) × (w ≡ tlv v.tag v.contents ++ r)
unfolding any_at
any_sound w v r bytes fits e =
    let h = bind_ok (head_at w) (λ h. slice_at h.0.len h.1 >>= λ x. Ok (record { tag = h.0.tag; contents = x.0 }, x.1)) (v, r) e in
    let x = bind_ok (slice_at h.0.0.len h.0.1) (λ x. Ok (record { tag = h.0.0.tag; contents = x.0 }, x.1)) (v, r) h.2 in
    let hd = head_sound w h.0.0 h.0.1 bytes h.1 in
    let s = slice_sound h.0.0.len h.0.1 x.0.0 x.0.1 x.1 in
    let is : w ≡ tlv h.0.0.tag x.0.0 ++ x.0.1 = tlv_is h.0.0.tag h.0.0.len x.0.0 x.0.1 h.0.1 w hd.0 s.0 s.1 in
    let front = bytes_front x.0.0 x.0.1 h.0.1 s.1 (bytes_rest (head_octets h.0.0.tag h.0.0.len) h.0.1 w hd.0 bytes) in
    let made : AnyValue × List ℕ = (record { tag = h.0.0.tag; contents = x.0.0 }, x.0.1) in
    let P : AnyValue × List ℕ → Type 0 = λ q. IsOctets q.0.contents × IsTag q.0.tag × Fits (tlv q.0.tag q.0.contents) × (w ≡ tlv q.0.tag q.0.contents ++ q.1) in
    subst P (ok_is made (v, r) x.2) (octets_are x.0.0 front, hd.1, fits_front (tlv h.0.0.tag x.0.0) x.0.1 w is fits, is)

opt_sound : {P : Type 0} (first : Tag → Bool) (F : Readings P) (w : List ℕ) (p : Option P) (r : List ℕ) → opt_at encodings.Der first F w ≡ Ok (p, r)
    → ((p ≡ None) × (w ≡ r)) ⊎ ((x : P) × (p ≡ Some x) × (F w ≡ Ok (x, r)))
unfolding opt_at
opt_sound {P} first F w p r e = let t = bind_ok (peek_at encodings.Der w) (λ t. opt_after F w (chosen first t)) (p, r) e in after (chosen first t.0) t.2
  where
    after : (o : Option Tag) → opt_after F w o ≡ Ok (p, r) → ((p ≡ None) × (w ≡ r)) ⊎ ((x : P) × (p ≡ Some x) × (F w ≡ Ok (x, r)))
    after None e = let same = ok_is (None, w) (p, r) e in inl (sym (ap (λ (q : Option P × List ℕ). q.0) same), ap (λ (q : Option P × List ℕ). q.1) same)
    after (Some t) e =
        let x = bind_ok (F w) (λ x. Ok (Some x.0, x.1)) (p, r) e in
        inr (x.0.0, grind (arith, nat_tests), grind (arith, nat_tests))

default_sound : {P : Type 0} (first : Tag → Bool) (D : Result (P × List ℕ) ErrorKind) (is : P → Bool) (F : Readings P) (w : List ℕ) (v : P) (r : List ℕ) → default_at encodings.Der first D is F w ≡ Ok (v, r)
    → ((w ≡ r) × (D ≡ Ok (v, []))) ⊎ ((is v ≡ false) × (F w ≡ Ok (v, r)))
unfolding default_at
default_sound {P} first D is F w v r e = let t = bind_ok (peek_at encodings.Der w) (λ t. default_after D is F w (chosen first t)) (v, r) e in after (chosen first t.0) t.2
  where
    after : (o : Option Tag) → default_after D is F w o ≡ Ok (v, r) → ((w ≡ r) × (D ≡ Ok (v, []))) ⊎ ((is v ≡ false) × (F w ≡ Ok (v, r)))
    after None e = inl (grind (arith, nat_tests), grind (arith, nat_tests))
    after (Some t) e = inr (grind (arith, nat_tests), grind (arith, nat_tests))

either_sound : {P Q : Type 0} (a b : Tag → Bool) (F : Readings P) (G : Readings Q) (w : List ℕ) (p : P ⊎ Q) (r : List ℕ) → either_at encodings.Der a b F G w ≡ Ok (p, r)
    → ((x : P) × (inl x ≡ p) × (F w ≡ Ok (x, r))) ⊎ ((x : Q) × (inr x ≡ p) × (G w ≡ Ok (x, r)))
unfolding either_at
either_sound {P} {Q} a b F G w p r e =
    let left : Result ((P ⊎ Q) × List ℕ) ErrorKind = F w >>= λ x. Ok (inl x.0, x.1) in
    let right : Result ((P ⊎ Q) × List ℕ) ErrorKind = G w >>= λ x. Ok (inr x.0, x.1) in
    let t = bind_ok (tag_at w) (λ t. cond (a t.0) left (cond (b t.0) right (Err kinds.TagUnexpected))) (p, r) e in
    elim (either_ok (a t.0.0) left (cond (b t.0.0) right (Err kinds.TagUnexpected)) (Ok (p, r)) t.2) [
      | inl h ↦
          let x = bind_ok (F w) (λ x. Ok (inl x.0, x.1)) (p, r) h.1 in
          inl (x.0.0, grind (arith, nat_tests), grind (arith, nat_tests))
      | inr h ↦
          let m = if_ok (b t.0.0) kinds.TagUnexpected right (p, r) h.1 in
          let x = bind_ok (G w) (λ x. Ok (inr x.0, x.1)) (p, r) m.1 in
          inr (x.0.0, grind (arith, nat_tests), grind (arith, nat_tests))
    ]

octets_bytes : (d : List ℕ) → are_octets d ≡ true → IsBytes d
octets_bytes [] h i = omega arith
octets_bytes (x ∷ xs) h zero = ltb-true x 256 (and_parts (ltb x 256) (are_octets xs) h).0
octets_bytes (x ∷ xs) h (suc i) = octets_bytes xs (and_parts (ltb x 256) (are_octets xs) h).1 i

leaf_at_ok : {P : Type 0} (o : Result P ErrorKind) (v : P) (r : List ℕ) → leaf_at o ≡ Ok (v, r) → (o ≡ Ok v) × (r ≡ [])
leaf_at_ok {P} (Ok x) v r e = let same = ok_is (x, []) (v, r) e in (ap (λ (q : P × List ℕ). Ok q.0) same, sym (ap (λ (q : P × List ℕ). q.1) same))
leaf_at_ok (Err d) v r e = absurd cc

-- The decoded value is valid, and the bytes are its encoding, followed by the remaining bytes.
abbrev pub Found : {P : Type 0} → (P → Type 0) → (P → List ℕ) → List ℕ → P → List ℕ → Type 0
Found V o w v r = V v × (w ≡ o v ++ r)

abbrev pub Finds : {P : Type 0} → Readings P → (P → Type 0) → (P → List ℕ) → Type 0
Finds {P} F V o = (w : List ℕ) (v : P) (r : List ℕ) → IsBytes w → Fits w → F w ≡ Ok (v, r) → Found V o w v r

-- At most `n` decoded values are valid, and the bytes are their encodings, followed by the rest.
few_sound : {P : Type 0} (k : ErrorKind) (F : Readings P) (V : P → Type 0) (o : P → List ℕ) → Finds F V o
    → (n : ℕ) (w : List ℕ) (v : List P) (r : List ℕ) → IsBytes w → Fits w → read_many k F n w ≡ Ok (v, r) → Found (λ v. AllByRecursion V v × (length v ≤ n)) (flat_map o) w v r
unfolding read_many
few_sound {P} k F V o each n [] v r bytes fits e = let same = ok_is ([], []) (v, r) e in subst (λ (q : List P × List ℕ). Found (λ v. AllByRecursion V v × (length v ≤ n)) (flat_map o) [] q.0 q.1) same ((tt, omega arith), refl)
few_sound k F V o each zero (b ∷ w) v r bytes fits e = absurd cc
few_sound {P} k F V o each (suc n) (b ∷ w) v r bytes fits e =
    let x = bind_ok (F (b ∷ w)) (λ x. read_many k F n x.1 >>= λ y. Ok (x.0 ∷ y.0, y.1)) (v, r) e in
    let y = bind_ok (read_many k F n x.0.1) (λ y. Ok (x.0.0 ∷ y.0, y.1)) (v, r) x.2 in
    let u = each (b ∷ w) x.0.0 x.0.1 bytes fits x.1 in
    let m = few_sound k F V o each n x.0.1 y.0.0 y.0.1 (bytes_rest (o x.0.0) x.0.1 (b ∷ w) u.1 bytes) (fits_rest (o x.0.0) x.0.1 (b ∷ w) u.1 fits) y.1 in
    let same = ok_is (x.0.0 ∷ y.0.0, y.0.1) (v, r) y.2 in
    subst (λ (q : List P × List ℕ). Found (λ v. AllByRecursion V v × (length v ≤ suc n)) (flat_map o) (b ∷ w) q.0 q.1) {x = (x.0.0 ∷ y.0.0, y.0.1)} same
    (((u.0, m.0.0), omega (arith, m.0.1)), joined (o x.0.0) (flat_map o y.0.0) y.0.1 x.0.1 (b ∷ w) u.1 m.1)

pub many_sound : {P : Type 0} (k : ErrorKind) (F : Readings P) (V : P → Type 0) (o : P → List ℕ) → Finds F V o
    → (n : ℕ) (w : List ℕ) (v : List P) (r : List ℕ) → IsBytes w → Fits w → read_many k F n w ≡ Ok (v, r) → Found (AllByRecursion V) (flat_map o) w v r
many_sound k F V o each n w v r bytes fits e = let h = few_sound k F V o each n w v r bytes fits e in (h.0.0, h.1)

exactly_sound : {P : Type 0} (F : Readings P) (V : P → Type 0) (o : P → List ℕ) → Finds F V o
    → (n : ℕ) (w : List ℕ) (v : List P) (r : List ℕ) → IsBytes w → Fits w → read_exactly F n w ≡ Ok (v, r) → Found (λ v. AllByRecursion V v × (length v ≡ n)) (flat_map o) w v r
unfolding read_exactly
exactly_sound {P} F V o each zero w v r bytes fits e = let same = ok_is ([], w) (v, r) e in subst (λ (q : List P × List ℕ). Found (λ v. AllByRecursion V v × (length v ≡ 0)) (flat_map o) w q.0 q.1) same ((tt, refl), refl)
exactly_sound {P} F V o each (suc n) w v r bytes fits e =
    let x = bind_ok (F w) (λ x. read_exactly F n x.1 >>= λ y. Ok (x.0 ∷ y.0, y.1)) (v, r) e in
    let y = bind_ok (read_exactly F n x.0.1) (λ y. Ok (x.0.0 ∷ y.0, y.1)) (v, r) x.2 in
    let u = each w x.0.0 x.0.1 bytes fits x.1 in
    let m = exactly_sound F V o each n x.0.1 y.0.0 y.0.1 (bytes_rest (o x.0.0) x.0.1 w u.1 bytes) (fits_rest (o x.0.0) x.0.1 w u.1 fits) y.1 in
    let same = ok_is (x.0.0 ∷ y.0.0, y.0.1) (v, r) y.2 in
    subst (λ (q : List P × List ℕ). Found (λ v. AllByRecursion V v × (length v ≡ suc n)) (flat_map o) w q.0 q.1) {x = (x.0.0 ∷ y.0.0, y.0.1)} same
    (((u.0, m.0.0), ap suc m.0.1), joined (o x.0.0) (flat_map o y.0.0) y.0.1 x.0.1 w u.1 m.1)

-- The encodings are in order, also with the previous one.
abbrev pub OrderedFrom : {P : Type 0} → Step → (P → List ℕ) → Option (List ℕ) → List P → Type 0
OrderedFrom how o last [] = ⊤
OrderedFrom how o None (x ∷ xs) = AllInOrder how o (x ∷ xs)
OrderedFrom how o (Some a) (x ∷ xs) = Follows how a (o x) × AllInOrder how o (x ∷ xs)

ordered_behind : {P : Type 0} (how : Step) (o : P → List ℕ) (x : P) (xs : List P) → OrderedFrom how o (Some (o x)) xs → AllInOrder how o (x ∷ xs)
ordered_behind how o x [] h = tt
ordered_behind how o x (y ∷ ys) h = h

pub order_on : {P : Type 0} (how : Step) (o : P → List ℕ) (last : Option (List ℕ)) (x : P) (xs : List P) → follows_last how last (o x) ≡ Ok tt → OrderedFrom how o (Some (o x)) xs → OrderedFrom how o last (x ∷ xs)
order_on how o None x xs e h = ordered_behind how o x xs h
order_on how o (Some a) x xs e h = (ok_follows how a (o x) tt e, ordered_behind how o x xs h)

ordered_sound : {P : Type 0} (how : Step) (F : Readings P) (V : P → Type 0) (o : P → List ℕ) → Finds F V o
    → (last : Option (List ℕ)) (n : ℕ) (w : List ℕ) (v : List P) (r : List ℕ) → IsBytes w → Fits w → read_in_order how o F last n w ≡ Ok (v, r) → (AllByRecursion V v × OrderedFrom how o last v) × (w ≡ flat_map o v ++ r)
unfolding read_in_order
ordered_sound {P} how F V o each last n [] v r bytes fits e = let same = ok_is ([], []) (v, r) e in subst (λ (q : List P × List ℕ). (AllByRecursion V q.0 × OrderedFrom how o last q.0) × ([] ≡ flat_map o q.0 ++ q.1)) same ((tt, tt), refl)
ordered_sound how F V o each last zero (b ∷ w) v r bytes fits e = absurd cc
ordered_sound {P} how F V o each last (suc n) (b ∷ w) v r bytes fits e =
    let x = bind_ok (F (b ∷ w)) (λ x. follows_last how last (o x.0) >>= λ _. read_in_order how o F (Some (o x.0)) n x.1 >>= λ y. Ok (x.0 ∷ y.0, y.1)) (v, r) e in
    let g = bind_ok (follows_last how last (o x.0.0)) (λ _. read_in_order how o F (Some (o x.0.0)) n x.0.1 >>= λ y. Ok (x.0.0 ∷ y.0, y.1)) (v, r) x.2 in
    let f = bind_ok (read_in_order how o F (Some (o x.0.0)) n x.0.1) (λ y. Ok (x.0.0 ∷ y.0, y.1)) (v, r) g.2 in
    let u = each (b ∷ w) x.0.0 x.0.1 bytes fits x.1 in
    let m = ordered_sound how F V o each (Some (o x.0.0)) n x.0.1 f.0.0 f.0.1 (bytes_rest (o x.0.0) x.0.1 (b ∷ w) u.1 bytes) (fits_rest (o x.0.0) x.0.1 (b ∷ w) u.1 fits) f.1 in
    let same = ok_is (x.0.0 ∷ f.0.0, f.0.1) (v, r) f.2 in
    subst (λ (q : List P × List ℕ). (AllByRecursion V q.0 × OrderedFrom how o last q.0) × (b ∷ w ≡ flat_map o q.0 ++ q.1)) {x = (x.0.0 ∷ f.0.0, f.0.1)} same
    (((u.0, m.0.0), order_on how o last x.0.0 f.0.0 g.1 m.0.1), joined (o x.0.0) (flat_map o f.0.0) f.0.1 x.0.1 (b ∷ w) u.1 m.1)

pub from_none : {P : Type 0} (how : Step) (o : P → List ℕ) (xs : List P) → OrderedFrom how o None xs → AllInOrder how o xs
from_none how o [] h = tt
from_none how o (x ∷ xs) h = h

-- The decoded value is valid, and the bytes are its encoding, followed by the remaining bytes.
mutual
  unfolding octets_of IsValid unless

  pub sound : (s : Shape) (room : ℕ) (w : List ℕ) (v : Value s) (r : List ℕ) → is_apart s ≡ true → IsBytes w → Fits w → read s room w ≡ Ok (v, r) → IsValid s v × (w ≡ octets_of s v ++ r)
  sound (tagged t c) room w v r a bytes fits e =
      let h = tlv_sound t (read_content c t room) w v r bytes fits e in
      let i = sound_content c t room h.0 v [] a h.1 (fits_contents t h.0 h.4) h.2 in
      ((i.0, h.3, subst (λ (x : List ℕ). Fits (tlv t x)) i.1 h.4), h.5 ∙ ap (λ (x : List ℕ). tlv t x ++ r) i.1)
  sound any room w v r a bytes fits e = let h = any_sound w v r bytes fits e in ((h.0, h.1, h.2), h.3)
  sound (either x y) room w v r a bytes fits e =
      elim (either_sound (begins x) (begins y) (read x room) (read y room) w v r e) [
        | inl h ↦ subst (λ q. IsValid (either x y) q × (w ≡ octets_of (either x y) q ++ r)) h.1 (sound x room w h.0 r (grind (arith, nat_tests)) bytes fits h.2)
        | inr h ↦ subst (λ q. IsValid (either x y) q × (w ≡ octets_of (either x y) q ++ r)) h.1 (sound y room w h.0 r (grind (arith, nat_tests)) bytes fits h.2)
      ]
  sound (optional s) room w v r a bytes fits e =
      elim (opt_sound (begins s) (read s room) w v r e) [
        | inl h ↦ subst (λ q. IsValid (optional s) q × (w ≡ octets_of (optional s) q ++ r)) (sym h.0) (tt, h.1)
        | inr h ↦ subst (λ q. IsValid (optional s) q × (w ≡ octets_of (optional s) q ++ r)) (sym h.1) (sound s room w h.0 r (grind (arith, nat_tests)) bytes fits h.2)
      ]
  sound nothing room w v r a bytes fits e = (tt, ap (λ (q : Unit {0} × List ℕ). q.1) (ok_is (tt, w) (v, r) e))
  sound (defaulted s d) room w v r a bytes fits e =
      elim (default_sound (begins s) (read s 64 d) (λ v. bytes_eq (octets_of s v) d) (read s room) w v r e) [
        | inl h ↦
            let i = sound s 64 d v [] (grind (arith, nat_tests)) (octets_bytes d (grind (arith, nat_tests))) (grind (arith, nat_tests)) h.1 in
            let same : bytes_eq (octets_of s v) d ≡ true = (bytes_eq-Decides (octets_of s v) d).1 (sym (i.1 ∙ append-nil (octets_of s v))) in
            (i.0, h.0 ∙ ap (λ b. unless b (octets_of s v) ++ r) (sym same))
        | inr h ↦
            let i = sound s room w v r (grind (arith, nat_tests)) bytes fits h.1 in
            (i.0, i.1 ∙ ap (λ b. unless b (octets_of s v) ++ r) (sym h.0))
      ]

  pub sound_content : (c : Content) (t : Tag) (room : ℕ) (w : List ℕ) (v : ContentValue c) (r : List ℕ) → is_content_apart c ≡ true → IsBytes w → Fits w → read_content c t room w ≡ Ok (v, r) → IsContent c v × (w ≡ contents c v)
  sound_content (leaf l) t room w v r a bytes fits e = leaf_sound l t w v bytes (leaf_at_ok (leaf_read l t w) v r e).0
  sound_content (nested b) t zero w v r a bytes fits e = absurd cc
  sound_content (nested b) t (suc room) w v r a bytes fits e =
      let h = sound_body b room w v r a bytes fits (grind (arith, nat_tests)) in
      let none : r ≡ [] = grind (arith, nat_tests) in
      (h.0, h.1 ∙ ap (λ (q : List ℕ). body_octets b v ++ q) none ∙ append-nil (body_octets b v))

  pub sound_body : (b : Body) (room : ℕ) (w : List ℕ) (v : BodyValue b) (r : List ℕ) → is_body_apart b ≡ true → IsBytes w → Fits w → read_body b room w ≡ Ok (v, r) → IsBody b v × (w ≡ body_octets b v ++ r)
  sound_body done room w v r a bytes fits e = (tt, ap (λ (q : Unit {0} × List ℕ). q.1) (ok_is (tt, w) (v, r) e))
  sound_body (field s b) room w v r a bytes fits e =
      let x = bind_ok (read s room w) (λ x. read_body b room x.1 >>= λ y. Ok ((x.0, y.0), y.1)) (v, r) e in
      let y = bind_ok (read_body b room x.0.1) (λ y. Ok ((x.0.0, y.0), y.1)) (v, r) x.2 in
      let u = sound s room w x.0.0 x.0.1 (grind (arith, nat_tests)) bytes fits x.1 in
      let m = sound_body b room x.0.1 y.0.0 y.0.1 (grind (arith, nat_tests)) (bytes_rest (octets_of s x.0.0) x.0.1 w u.1 bytes) (fits_rest (octets_of s x.0.0) x.0.1 w u.1 fits) y.1 in
      let same = ok_is ((x.0.0, y.0.0), y.0.1) (v, r) y.2 in
      subst (λ (q : BodyValue (field s b) × List ℕ). IsBody (field s b) q.0 × (w ≡ body_octets (field s b) q.0 ++ q.1)) {x = ((x.0.0, y.0.0), y.0.1)} same
      ((u.0, m.0), joined (octets_of s x.0.0) (body_octets b y.0.0) y.0.1 x.0.1 w u.1 m.1)
  sound_body (only s) room w v r a bytes fits e = sound s room w v r (and_parts (is_element s) _ a).1 bytes fits e
  sound_body (many s) room w v r a bytes fits e =
      many_sound kinds.TrailingData (read s room) (IsValid s) (octets_of s) (λ w v r bytes fits e. sound s room w v r (and_parts (is_element s) _ a).1 bytes fits e) (length w) w v r bytes fits e
  sound_body (exactly n s) room w v r a bytes fits e =
      exactly_sound (read s room) (IsValid s) (octets_of s) (λ w v r bytes fits e. sound s room w v r (and_parts (is_element s) _ a).1 bytes fits e) n w v r bytes fits e
  sound_body (few n s) room w v r a bytes fits e =
      few_sound kinds.Overlength (read s room) (IsValid s) (octets_of s) (λ w v r bytes fits e. sound s room w v r (and_parts (is_element s) _ a).1 bytes fits e) n w v r bytes fits e
  sound_body (in_order how s) room w v r a bytes fits e =
      let h = ordered_sound how (read s room) (IsValid s) (octets_of s) (λ w v r bytes fits e. sound s room w v r (and_parts (is_element s) _ a).1 bytes fits e) None (length w) w v r bytes fits e in
      ((h.0.0, from_none how (octets_of s) v h.0.1), h.1)

-- Decoding all bytes

pub is_spelled : {T : Type 0} (s : Shape) (plain : T → Value s) (w : List ℕ) (r : Result T Error) → is_apart s ≡ true → IsBytes w → Gives (λ v. (plain v, [])) r (read_whole s w) → IfOk r (λ v. Spells s (plain v) w)
unfolding read_whole
is_spelled s plain w (Ok v) a bytes e =
    let fits : Fits w = grind (arith, nat_tests) in
    let b = sound s 64 w (plain v) [] a bytes fits (grind (arith, nat_tests)) in
    record { valid = b.0; octets = b.1 ∙ append-nil (octets_of s (plain v)) }
is_spelled s plain w (Err e) a bytes h = tt

pub whole_again : (s : Shape) (v : Value s) (w : List ℕ) → is_apart s ≡ true → are_enough s 64 ≡ true → Spells s v w → read_whole s w ≡ Ok (v, [])
unfolding read_whole
whole_again s v w a n h =
    let fits = valid_fits s v h.valid in
    let e = ap (read s 64) (h.octets ∙ sym (append-nil (octets_of s v))) ∙ complete s 64 v [] a n h.valid (stops_end s) in
    rw (le-ltb length_max (length w) (omega (arith, ap length h.octets, fits)), e) refl

pub is_read : {T : Type 0} (s : Shape) (plain : T → Value s) (v : Value s) (w : List ℕ) (r : Result T Error) → is_apart s ≡ true → are_enough s 64 ≡ true → Spells s v w → Gives (λ v. (plain v, [])) r (read_whole s w) → Gives plain r (Ok v)
is_read s plain p w (Ok v) a n h e =
    let same : (p, []) ≡ (plain v, []) = ok_is (p, []) (plain v, []) (sym (whole_again s p w a n h) ∙ e) in
    ap (λ (q : Value s × List ℕ). Ok q.0) same
is_read s plain p w (Err d) a n h e = λ memory. absurd (cc (whole_again s p w a n h, e memory))

-- The encoding of a valid value consists of bytes

-- Each number of the list is a byte, at any index.
pub bytes_are : (w : List ℕ) → IsOctets w → IsBytes w
bytes_are [] h i = omega arith
bytes_are (b ∷ w) h zero = h.0
bytes_are (b ∷ w) h (suc i) = bytes_are w h.1 i

pub octets_below : (s : Shape) (v : Value s) → IsValid s v → IsOctets (octets_of s v)
octets_below s v h = (valid_goes s v h).0
