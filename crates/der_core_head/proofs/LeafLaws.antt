-- Lemmas about the contents of leaves: the content of a value decodes to it, and a decoded content
-- is that of the result.
use Rattle.std.proofs.lemmas.Bool.Decides.{nat_tests}
use Rattle.std.proofs.Common.{◌≡◌, ℕ, ◌≤◌, Bool, true, false, List, [], ◌∷◌, length, Result, Ok, Err, refl, ap, subst, arith, ◌<◌, ◌+◌, ◌*◌, ◌-◌, ◌%◌, cond, ltb, eqb, ◌++◌, take, drop, Option, Some, None, inl, inr, ◌≢◌, bytes_eq}
use Rattle.const_oid.specs.IdentifierOctets.{read_identifier}
use Rattle.const_oid.specs.declared.error.Error.{Error as OidError}
use Rattle.const_oid.proofs.IdentifierLaws.{identifier_sound, identifier_again, identifier_below}
use Rattle.der_core_head.specs.declared.tag.Tag.{Tag}
use Rattle.der_core_head.specs.Octets.{IsOctets, ◌>>=◌}
use Rattle.der_core_head.specs.Leaves.{Leaf, boolean, null, integer, bits, octets, identifier, utc_time, generalized_time, text, utf8, bmp, named, LeafValue, bool_octets, leaf_contents, IsLeafValue, bool_read, null_read, or_malformed, leaf_read}
use Rattle.der_core_head.proofs.Results.{ok_is, fine, if_ok, IsBytes, octets_are, bytes_tail}
use Rattle.der_core_head.proofs.IntegerLaws.{integer_sound, integer_again, integer_octets-below, named_sound, named_again, named_below}
use Rattle.der_core_head.proofs.TextLaws.{utc_sound, utc_again, utc_octets-below, generalized_sound, generalized_again, generalized_octets-below, text_sound, text_again, utf8_sound, utf8_again, bmp_sound, bmp_again, bmp_below}
use Rattle.std.proofs.lemmas.Bool.{cond-true, and_parts, ltb-true, eqb-true, cases_lt, lt-ltb, le-ltb}
use Rattle.der_core_head.specs.BitStrings.{Bits, IsBits, are_bits, bit_contents, bits_read}
use Rattle.der_core_head.specs.declared.error.ErrorKind.TheVariants as kinds
use Rattle.std.proofs.lemmas.List.{length-append, take-append-le, drop-append-le}
use Rattle.std.specs.Int.Digits.{number_from_digits}
use Rattle.der_core_head.specs.declared.error.ErrorKind.{ErrorKind}
use Rattle.der_core_head.specs.Tags.{universal_tag, known_tag, digits_at, number_at, tag_at}
use Rattle.der_core_head.specs.Heads.{Head, length_octets, shortest, length_at, head_at}

-- A decoded content of a BIT STRING is that of the result.
bits_sound : (t : Tag) (w : List ℕ) (v : Bits) → IsBytes w → bits_read t w ≡ Ok v → IsBits v × (w ≡ bit_contents v)
unfolding bits_read
bits_sound t [] v h e = absurd cc
bits_sound t (u ∷ w) v h e =
    let parts = if_ok (are_bits u w) (kinds.Value t) (fine (record { unused = u; octets = w })) v e in
    let same : record { unused = u; octets = w } ≡ v = ok_is _ v parts.1 in
    subst (λ (b : Bits). IsBits b × (u ∷ w ≡ bit_contents b)) same
    (record { unused = parts.0; octets = octets_are w (bytes_tail u w h) }, refl)

bits_again : (t : Tag) (v : Bits) → IsBits v → bits_read t (bit_contents v) ≡ Ok v
unfolding bits_read
bits_again t v h = cond-true (are_bits v.unused v.octets) (fine v) (Err (kinds.Value t)) h.unused

-- The number of unused bits and the bytes are bytes.
bit_contents-below : (v : Bits) → IsBits v → IsOctets (bit_contents v)
bit_contents-below v h = (small v.unused v.octets h.unused, h.octets)
  where
    small : (u : ℕ) (w : List ℕ) → are_bits u w ≡ true → u < 256
    small u [] e = let n = eqb-true u 0 e in omega arith
    small u (b ∷ w) e = let n = ltb-true u 8 (and_parts _ _ e).0 in omega arith

bool_sound : (t : Tag) (w : List ℕ) (v : Bool) → bool_read t w ≡ Ok v → w ≡ bool_octets v
bool_sound t (b ∷ []) v e = grind (arith, nat_tests)
bool_sound t _ v e = absurd cc

bool_again : (t : Tag) (v : Bool) → bool_read t (bool_octets v) ≡ Ok v
bool_again t true = refl
bool_again t false = refl

bool_below : (v : Bool) → IsOctets (bool_octets v)
bool_below true = (omega arith, tt)
bool_below false = (omega arith, tt)

null_sound : (t : Tag) (w : List ℕ) (v : Unit {0}) → null_read t w ≡ Ok v → w ≡ []
null_sound t [] v e = refl
null_sound t (b ∷ w) v e = absurd cc

or_malformed_ok : {A : Type 0} (r : Result A OidError) (x : A) → or_malformed r ≡ Ok x → r ≡ Ok x
or_malformed_ok r x e = grind (arith, nat_tests)

pub leaf_sound : (l : Leaf) (t : Tag) (w : List ℕ) (v : LeafValue l) → IsBytes w → leaf_read l t w ≡ Ok v → IsLeafValue l v × (w ≡ leaf_contents l v)
leaf_sound boolean t w v h e = (tt, bool_sound t w v e)
leaf_sound null t w v h e = (tt, null_sound t w v e)
leaf_sound (integer r) t w v h e = integer_sound r t w v h e
leaf_sound bits t w v h e = bits_sound t w v h e
leaf_sound octets t w v h e =
    let same = ok_is w v e in
    (subst IsOctets same (octets_are w h), same)
leaf_sound (identifier bound capacity) t w v h e =
    let parts = identifier_sound bound capacity w v h (or_malformed_ok (read_identifier bound capacity w) v e) in
    ((parts.0, subst (λ (x : List ℕ). length x ≤ capacity) parts.2 parts.1), parts.2)
leaf_sound utc_time t w v h e = utc_sound t w v e
leaf_sound generalized_time t w v h e = generalized_sound t w v e
leaf_sound (text r) t w v h e = text_sound r t w v h e
leaf_sound utf8 t w v h e = utf8_sound w v h e
leaf_sound bmp t w v h e = bmp_sound t w v h e
leaf_sound (named n) t w v h e = named_sound n t w v h e

pub leaf_again : (l : Leaf) (t : Tag) (v : LeafValue l) → IsLeafValue l v → leaf_read l t (leaf_contents l v) ≡ Ok v
leaf_again boolean t v h = bool_again t v
leaf_again null t v h = refl
leaf_again (integer r) t v h = integer_again r t v h
leaf_again bits t v h = bits_again t v h
leaf_again octets t v h = refl
leaf_again (identifier bound capacity) t v h = ap or_malformed (identifier_again bound capacity v h.0 h.1)
leaf_again utc_time t v h = utc_again t v h
leaf_again generalized_time t v h = generalized_again t v h
leaf_again (text r) t v h = text_again r t v h
leaf_again utf8 t v h = utf8_again v h
leaf_again bmp t v h = bmp_again t v h
leaf_again (named n) t v h = named_again n t v h

pub leaf_below : (l : Leaf) (v : LeafValue l) → IsLeafValue l v → IsOctets (leaf_contents l v)
leaf_below boolean v h = bool_below v
leaf_below null v h = tt
leaf_below (integer r) v h = integer_octets-below v
leaf_below bits v h = bit_contents-below v h
leaf_below octets v h = h
leaf_below (identifier bound capacity) v h = identifier_below bound v h.0
leaf_below utc_time v h = utc_octets-below v h
leaf_below generalized_time v h = generalized_octets-below v h
leaf_below (text r) v h = h.octets
leaf_below utf8 v h = h.octets
leaf_below bmp v h = bmp_below v h
leaf_below (named n) v h = named_below v

-- Prefixes: more bytes don't change a result, unless the error was `Incomplete` (X.690 8.1.2,
-- 8.1.3)

-- The second result is the first one, with more bytes after it.
abbrev pub Stays : {P : Type 0} → List ℕ → Result (P × List ℕ) ErrorKind → Result (P × List ℕ) ErrorKind → Type 0
Stays more (Ok x) s = s ≡ Ok (x.0, x.1 ++ more)
Stays more (Err k) s = k ≢ kinds.Incomplete → s ≡ Err k

bind_stays : {P Q : Type 0} (more : List ℕ) (r s : Result (P × List ℕ) ErrorKind) (f : P × List ℕ → Result (Q × List ℕ) ErrorKind)
    → Stays more r s → ((x : P) (w : List ℕ) → Stays more (f (x, w)) (f (x, w ++ more))) → Stays more (r >>= f) (s >>= f)
bind_stays more (Ok x) s f h next = rw h (next x.0 x.1)
bind_stays more (Err k) s f h next = λ other. rw (h other) refl

if_stays : {P : Type 0} (more : List ℕ) (b : Bool) (l m r s : Result (P × List ℕ) ErrorKind) → Stays more l m → Stays more r s → Stays more (cond b l r) (cond b m s)
if_stays more true l m r s h i = h
if_stays more false l m r s h i = i

known_stays : (more : List ℕ) (o : Option Tag) (w : List ℕ) → Stays more (known_tag o w) (known_tag o (w ++ more))
known_stays more (Some t) w = refl
known_stays more None w = λ other. refl

digits_stay : (more : List ℕ) (n : ℕ) (w : List ℕ) → Stays more (digits_at n w) (digits_at n (w ++ more))
unfolding digits_at
digits_stay more n [] = λ other. absurd (other refl)
digits_stay more n (d ∷ w) =
    if_stays more (ltb (128 * n + d % 128) 4294967296) _ _ _ _
    (if_stays more (ltb d 128) _ _ _ _ refl (digits_stay more (128 * n + d % 128) w))
    (λ other. refl)

number_stays : (more w : List ℕ) → Stays more (number_at w) (number_at (w ++ more))
unfolding number_at
number_stays more [] = λ other. absurd (other refl)
number_stays more (d ∷ w) =
    if_stays more (eqb d 128) _ _ _ _ (λ other. refl)
    (bind_stays more (digits_at 0 (d ∷ w)) _ _ (digits_stay more 0 (d ∷ w)) (λ n r. if_stays more (ltb n 31) _ _ _ _ (λ other. refl) refl))

pub tag_stays : (more w : List ℕ) → Stays more (tag_at w) (tag_at (w ++ more))
unfolding tag_at
tag_stays more [] = λ other. absurd (other refl)
tag_stays more (octet ∷ w) =
    if_stays more (ltb octet 64) _ _ _ _ (known_stays more (universal_tag octet) w)
    (if_stays more (eqb (octet % 32) 31) _ _ _ _ (bind_stays more (number_at w) _ _ (number_stays more w) (λ n r. refl)) refl)

shortest_stays : (more : List ℕ) (t : Tag) (n : ℕ) (ds w : List ℕ) → Stays more (shortest t n ds w) (shortest t n ds (w ++ more))
shortest_stays more t n ds w =
    let number = number_from_digits 256 ds in
    if_stays more (bytes_eq (length_octets number) (n ∷ ds)) (Ok (number, w)) (Ok (number, w ++ more)) (Err (kinds.Length t)) (Err (kinds.Length t)) refl (λ other. refl)

-- The digits of a length, if that many bytes are there.
abbrev cut : Tag → ℕ → ℕ → List ℕ → Result (ℕ × List ℕ) ErrorKind
cut t n k w = cond (ltb (length w) k) (Err kinds.Incomplete) (shortest t n (take k w) (drop k w))

cut_stays : (more : List ℕ) (t : Tag) (n k : ℕ) (w : List ℕ) → Stays more (cut t n k w) (cut t n k (w ++ more))
cut_stays more t n k w = elim (cases_lt (length w) k) [
  | inl short ↦ rw (lt-ltb (length w) k short) (λ other. absurd (other refl))
  | inr enough ↦
      let still : k ≤ length (w ++ more) = omega (arith, length-append w more) in
      rw (le-ltb (length w) k enough, le-ltb (length (w ++ more)) k still, take-append-le k w more enough, drop-append-le k w more enough)
      (shortest_stays more t n (take k w) (drop k w))
]

pub length_stays : (more : List ℕ) (t : Tag) (w : List ℕ) → Stays more (length_at t w) (length_at t (w ++ more))
unfolding length_at
length_stays more t [] = λ other. absurd (other refl)
length_stays more t (n ∷ w) =
    if_stays more (ltb n 128) _ _ _ _ refl
    (if_stays more (eqb n 128) _ _ _ _ (λ other. refl)
    (if_stays more (ltb 132 n) _ _ _ _ (λ other. refl) (cut_stays more t n (n - 128) w)))

pub head_stays : (more w : List ℕ) → Stays more (head_at w) (head_at (w ++ more))
unfolding head_at
head_stays more w = bind_stays more (tag_at w) _ _ (tag_stays more w) (λ t r. bind_stays more (length_at t r) _ _ (length_stays more t r) (λ n z. refl))

-- Decoded headers, and errors

pub read_stays : (h : Head) (r w more : List ℕ) → head_at w ≡ Ok (h, r) → head_at (w ++ more) ≡ Ok (h, r ++ more)
read_stays h r w more e = rw e at (head_stays more w)

pub fault_stays : (k : ErrorKind) (w more : List ℕ) → head_at w ≡ Err k → k ≢ kinds.Incomplete → head_at (w ++ more) ≡ Err k
fault_stays k w more e = rw e at (head_stays more w)

pub ruleset headers_stay = (read_stays, fault_stays)
