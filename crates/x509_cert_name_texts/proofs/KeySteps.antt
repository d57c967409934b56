-- Lemmas for printing and parsing keys: the key that is printed for an attribute type is parsed as
-- that type, and the first = ends it.
use Rattle.std.proofs.Common.{◌≡◌, ◌≢◌, ℕ, suc, ◌+◌, ◌<◌, ◌≤◌, ◌==◌, ◌&&◌, List, [], ◌∷◌, ◌++◌, length, take, drop, Bool, true, false, not, refl, sym, ap, ◌∙◌, subst, add-one, arith, Option, Some, None, Ok, nat_lt, nat_eq, map, find, position, length-append, if◌then◌else◌}
use Rattle.std.specs.Char.{to_ascii_lowercase, to_ascii_uppercase}
use Rattle.std.specs.Cmp.Lexicographic.{pointwise, bytes_decides}
use Rattle.std.specs.List.{AllByRecursion, list_all, list_any, flat_map, position_or_len}
use Rattle.std.specs.Int.Digits.{AllBelowBase}
use Rattle.std.proofs.lemmas.Bool.{and_parts, and_from, and_left, or_from, lt-ltb, ltb-true, true≢false}
use Rattle.std.proofs.lemmas.Bool.Decides.{nat_tests}
use Rattle.der_core.specs.Oid.Comparing.{owned_eq}
use Rattle.der_core.specs.Oid.DottedText.{decimal, dot_decimal, dotted}
use Rattle.der_core.specs.Oid.Digits.{digits}
use Rattle.der_core.specs.Oid.IdentifierOctets.{IsIdentifier, identifier_octets}
use Rattle.der_core.proofs.Oid.BoundedLaws.{widen}
use Rattle.der_core.proofs.DigitLaws.{digits-Digits}
use Rattle.der_core.proofs.Oid.PrefixLaws.{same_octets}
use Rattle.der_core.proofs.Oid.TextFaultLaws.{dotted_read}
use Rattle.x509_cert_name_texts.specs.Keys.{Named, is_name, named_types, type_named, dotted_arcs, arcs_or, key_arcs, shortest_name, printed_name, key_of}
use Rattle.x509_cert_name_texts.specs.Pieces.{halves_at, key_and_value}
use Rattle.x509_cert_name_texts.proofs.PrintSteps.{IsPlain, is_paired}

-- A byte that occurs in keys: one that is never escaped and isn't =.
abbrev pub is_of_key : ℕ → Bool
is_of_key c = not (is_paired c) && not (c == 61)

abbrev pub IsKey : List ℕ → Type 0
IsKey w = list_all is_of_key w ≡ true

not_true : (b : Bool) → not b ≡ true → b ≡ false
not_true true e = sym e
not_true false e = refl

of_key : (c : ℕ) → is_of_key c ≡ true → IsPlain c × ((c == 61) ≡ false)
of_key c e = let p = and_parts (not (is_paired c)) (not (c == 61)) e in (not_true (is_paired c) p.0, not_true (c == 61) p.1)

pub key_plain : (w : List ℕ) → IsKey w → AllByRecursion IsPlain w
key_plain [] e = tt
key_plain (c ∷ w) e = let p = and_parts (is_of_key c) (list_all is_of_key w) e in ((of_key c p.0).0, key_plain w p.1)

-- The first = ends a key.

equals_at : (key value : List ℕ) → IsKey key → position_or_len (λ c. c == 61) (key ++ (61 ∷ value)) ≡ length key
equals_at [] value e = refl
equals_at (c ∷ key) value e =
    let p = and_parts (is_of_key c) (list_all is_of_key key) e in
    let more = equals_at key value p.1 in
    rw ((of_key c p.0).1, more) (omega arith)

front_of : (key rest : List ℕ) → take (length key) (key ++ rest) ≡ key
front_of [] rest = refl
front_of (c ∷ key) rest = ap (λ (w : List ℕ). c ∷ w) (front_of key rest)

behind_of : (key value : List ℕ) → drop (length key + 1) (key ++ (61 ∷ value)) ≡ value
behind_of key value = ap (λ n. drop n (key ++ (61 ∷ value))) (add-one (length key)) ∙ by key
  where
    by : (w : List ℕ) → drop (suc (length w)) (w ++ (61 ∷ value)) ≡ value
    by [] = refl
    by (c ∷ w) = by w

pub split_at_equals : (key value : List ℕ) → IsKey key → key_and_value (key ++ (61 ∷ value)) ≡ Some (key, value)
split_at_equals key value e =
    let n = length key in
    let text = key ++ (61 ∷ value) in
    let within : nat_lt n (length text) ≡ true = lt-ltb n (length text) (omega (arith, length-append key (61 ∷ value))) in
    let at : position (λ c. c == 61) text ≡ Some n = ap (λ k. if nat_lt k (length text) then Some k else None) (equals_at key value e) ∙ ap (λ b. if b then Some n else None) within in
    ap (λ o. halves_at o text) at ∙ λ i. Some (front_of key (61 ∷ value) i, behind_of key value i)

-- Keys of attribute types that have a name.

found : {A : Type 0} (p q : A → Bool) (xs : List A) (x : A) → find p xs ≡ Some x → list_all q xs ≡ true → (p x ≡ true) × (q x ≡ true)
found p q [] x e all = absurd (cc e)
found p q (y ∷ xs) x e all = by (p y) refl e (λ g. found p q xs x g (and_parts (q y) (list_all q xs) all).1)
  where
    by : (b : Bool) → p y ≡ b → (if b then Some y else find p xs) ≡ Some x → (find p xs ≡ Some x → (p x ≡ true) × (q x ≡ true)) → (p x ≡ true) × (q x ≡ true)
    by true f g more = let same : y ≡ x = cc g in (subst (λ z. p z ≡ true) same f, subst (λ z. q z ≡ true) same (and_parts (q y) (list_all q xs) all).0)
    by false f g more = more g

abbrev printed_of : Named → List ℕ
printed_of t = map to_ascii_uppercase (shortest_name t.names)

abbrev has_arcs : Option Named → List ℕ → Bool
has_arcs (Some t) arcs = pointwise nat_eq t.arcs arcs
has_arcs None arcs = false

abbrev is_identifier : List ℕ → Bool
is_identifier (a ∷ b ∷ arcs) = nat_lt a 3 && (nat_lt b 40 && list_all (λ n. nat_lt n 19200301) arcs)
is_identifier _ = false

abbrev reads_back : Named → Bool
reads_back t = list_all is_of_key (printed_of t) && (has_arcs (type_named (printed_of t)) t.arcs && is_identifier t.arcs)

all_read_back : list_all reads_back named_types ≡ true
unfolding named_types type_named
all_read_back = refl

all_below : (arcs : List ℕ) → list_all (λ n. nat_lt n 19200301) arcs ≡ true → AllByRecursion (λ n. n < 19200301) arcs
all_below [] e = tt
all_below (n ∷ arcs) e = let p = and_parts (nat_lt n 19200301) (list_all (λ n. nat_lt n 19200301) arcs) e in (ltb-true n 19200301 p.0, all_below arcs p.1)

identifier : (arcs : List ℕ) → is_identifier arcs ≡ true → IsIdentifier 19200301 arcs
unfolding IsIdentifier
identifier [] e = absurd (true≢false (sym e))
identifier (a ∷ []) e = absurd (true≢false (sym e))
identifier (a ∷ b ∷ arcs) e =
    let p = and_parts (nat_lt a 3) (nat_lt b 40 && list_all (λ n. nat_lt n 19200301) arcs) e in
    let q = and_parts (nat_lt b 40) (list_all (λ n. nat_lt n 19200301) arcs) p.1 in
    let first = ltb-true a 3 p.0 in
    (omega (arith, first), ltb-true b 40 q.0, all_below arcs q.1)

arcs_of_named : (bound : ℕ) (o : Option Named) (key arcs : List ℕ) → has_arcs o arcs ≡ true → arcs_or bound o key ≡ Ok arcs
arcs_of_named bound (Some t) key arcs e = ap (λ (a : List ℕ). Ok a) ((bytes_decides t.arcs arcs).0 e)
arcs_of_named bound None key arcs e = absurd (true≢false (sym e))

pub named_read : (bound : ℕ) (arcs key : List ℕ) → IsIdentifier bound arcs → key_of arcs ≡ Some key → IsKey key × (key_arcs bound key ≡ Ok arcs)
unfolding key_of
named_read bound arcs key id e = by (find (λ (t : Named). owned_eq t.arcs arcs) named_types) refl e
  where
    by : (o : Option Named) → find (λ (t : Named). owned_eq t.arcs arcs) named_types ≡ o → printed_name o ≡ Some key → IsKey key × (key_arcs bound key ≡ Ok arcs)
    by None f g = absurd (cc g)
    by (Some t) f g =
        let both = found (λ (x : Named). owned_eq x.arcs arcs) reads_back named_types t f all_read_back in
        let same : printed_of t ≡ key = cc g in
        let p = and_parts (list_all is_of_key (printed_of t)) (has_arcs (type_named (printed_of t)) t.arcs && is_identifier t.arcs) both.1 in
        let q = and_parts (has_arcs (type_named (printed_of t)) t.arcs) (is_identifier t.arcs) p.1 in
        let one = widen 19200301 (bound + 19200301) (omega arith) t.arcs (identifier t.arcs q.1) in
        let other = widen bound (bound + 19200301) (omega arith) arcs id in
        let is : t.arcs ≡ arcs = same_octets (bound + 19200301) t.arcs arcs one other ((bytes_decides (identifier_octets t.arcs) (identifier_octets arcs)).0 both.0) in
        let Q : List ℕ → Type 0 = λ k. IsKey k × (key_arcs bound k ≡ Ok arcs) in
        subst Q same (p.0, arcs_of_named bound (type_named (printed_of t)) (printed_of t) t.arcs q.0 ∙ ap (λ (a : List ℕ). Ok a) is)

-- Keys in dotted form.

key-append : (v w : List ℕ) → IsKey v → IsKey w → IsKey (v ++ w)
key-append [] w e f = f
key-append (c ∷ v) w e f =
    let p = and_parts (is_of_key c) (list_all is_of_key v) e in
    and_from (is_of_key c) (list_all is_of_key (v ++ w)) p.0 (key-append v w p.1 f)

digit_of_key : (d : ℕ) → d < 10 → is_of_key (48 + d) ≡ true
digit_of_key d lt = grind (arith, nat_tests)

digits_key : (ds : List ℕ) → AllBelowBase 10 ds → IsKey (map (λ d. 48 + d) ds)
digits_key [] h = refl
digits_key (d ∷ ds) h = and_from (is_of_key (48 + d)) (list_all is_of_key (map (λ d. 48 + d) ds)) (digit_of_key d h.0) (digits_key ds h.1)

decimal_key : (n : ℕ) → IsKey (decimal n)
unfolding decimal
decimal_key n = digits_key (digits 10 n) (digits-Digits 10 n (omega arith)).below

more_key : (arcs : List ℕ) → IsKey (flat_map dot_decimal arcs)
unfolding dot_decimal
more_key [] = refl
more_key (a ∷ arcs) = key-append (decimal a) (flat_map dot_decimal arcs) (decimal_key a) (more_key arcs)

pub dotted_key : (arcs : List ℕ) → IsKey (dotted arcs)
unfolding dotted
dotted_key [] = refl
dotted_key (a ∷ arcs) = key-append (decimal a) (flat_map dot_decimal arcs) (decimal_key a) (more_key arcs)

-- A dotted OID isn't the name of a type, since each name begins with a letter.
abbrev is_high : List ℕ → Bool
is_high [] = false
is_high (c ∷ w) = nat_lt 57 (to_ascii_lowercase c)

abbrev has_letters : Named → Bool
has_letters t = list_all is_high t.names

all_letters : list_all has_letters named_types ≡ true
unfolding named_types
all_letters = refl

small_letter : (c : ℕ) → c < 58 → to_ascii_lowercase c ≡ c
small_letter c lt = grind (arith, nat_tests)

apart : (x c : ℕ) → nat_lt 57 x ≡ true → c < 58 → nat_eq x c ≡ false
apart x c h lt = grind (arith, nat_tests)

no_name : (c : ℕ) (w name : List ℕ) → c < 58 → is_high name ≡ true → is_name (c ∷ w) name ≡ false
no_name c w [] lt h = refl
no_name c w (x ∷ name) lt h =
    and_left (nat_eq (to_ascii_lowercase x) (to_ascii_lowercase c)) (pointwise nat_eq (map to_ascii_lowercase name) (map to_ascii_lowercase w))
    (apart (to_ascii_lowercase x) (to_ascii_lowercase c) h (subst (λ k. k < 58) (sym (small_letter c lt)) lt))

no_names : (c : ℕ) (w : List ℕ) (names : List (List ℕ)) → c < 58 → list_all is_high names ≡ true → list_any (is_name (c ∷ w)) names ≡ false
no_names c w [] lt h = refl
no_names c w (name ∷ names) lt h =
    let p = and_parts (is_high name) (list_all is_high names) h in
    or_from (is_name (c ∷ w) name) (list_any (is_name (c ∷ w)) names) (no_name c w name lt p.0) (no_names c w names lt p.1)

none_named : (c : ℕ) (w : List ℕ) (ts : List Named) → c < 58 → list_all has_letters ts ≡ true → find (λ (t : Named). list_any (is_name (c ∷ w)) t.names) ts ≡ None
none_named c w [] lt h = refl
none_named c w (t ∷ ts) lt h =
    let p = and_parts (has_letters t) (list_all has_letters ts) h in
    rw (no_names c w t.names lt p.0) (none_named c w ts lt p.1)

not_named : (c : ℕ) (w : List ℕ) → c < 58 → type_named (c ∷ w) ≡ None
unfolding type_named
not_named c w lt = none_named c w named_types lt all_letters

decimal_unnamed : (a : ℕ) (rest : List ℕ) → type_named (decimal a ++ rest) ≡ None
unfolding decimal
decimal_unnamed a rest = by (digits 10 a) (digits-Digits 10 a (omega arith)).below (digits-Digits 10 a (omega arith)).some
  where
    by : (ds : List ℕ) → AllBelowBase 10 ds → 0 < length ds → type_named (map (λ d. 48 + d) ds ++ rest) ≡ None
    by [] h l = absurd (omega (arith, l))
    by (d ∷ ds) h l = not_named (48 + d) (map (λ d. 48 + d) ds ++ rest) (omega (arith, h.0))

dotted_unnamed : (bound : ℕ) (arcs : List ℕ) → IsIdentifier bound arcs → type_named (dotted arcs) ≡ None
unfolding dotted IsIdentifier
dotted_unnamed bound [] id = absurd id
dotted_unnamed bound (a ∷ arcs) id = decimal_unnamed a (flat_map dot_decimal arcs)

pub dotted_key_read : (bound : ℕ) (arcs : List ℕ) → 40 ≤ bound → IsIdentifier bound arcs → length (identifier_octets arcs) ≤ 39 → key_arcs bound (dotted arcs) ≡ Ok arcs
dotted_key_read bound arcs root id fits =
    ap (λ o. arcs_or bound o (dotted arcs)) (dotted_unnamed bound arcs id) ∙ ap dotted_arcs (dotted_read bound 39 arcs root id fits)
