-- Lemmas about lengths of several bytes, and about results for longer inputs.
use Rattle.std.proofs.Common.{◌≡◌, ℕ, ◌+◌, ◌-◌, ◌*◌, ◌<◌, ◌≤◌, Bool, true, false, cond, ltb, eqb, List, [], ◌∷◌, length, get_or, take, drop, ◌%◌, suc, Result, Ok, Err, arith, refl, ap, ◌∙◌, length-drop, inl, inr, IsErr, ◌≢◌, take_all, ◌++◌, IfOk, Option, Some, None, sym}
use Rattle.der_core_head.specs.declared.error.ErrorKind.{ErrorKind}
use Rattle.std.proofs.lemmas.Bool.Decides.{nat_tests}
use Rattle.std.proofs.lemmas.Bool.{cases_lt, le-ltb, lt-ltb, ne_eqb, eq-eqb}
use Rattle.der_core_head.specs.declared.error.ErrorKind.TheVariants as kinds
use Rattle.der_core_head.specs.declared.tag.Tag.{Tag}
use Rattle.der_core_head.specs.Tags.{tag_at, IsTag}
use Rattle.der_core_head.specs.Heads.{shortest, length_at, head_at, length_octets, head_octets, Head}
use Rattle.der_core_head.proofs.HeadLaws.{length_at-indefinite, length_at-large, length_at-cut, length_at-1, length_at-2, length_at-3, length_at-4, length_again, length_sound, head_sound}
use Rattle.der_core_head.specs.declared.error.Error.{Error}
use Rattle.der_core_head.specs.declared.length.Length.{Length}
use Rattle.der_core_head.specs.declared.tag.Tag.TheVariants as tags
use Rattle.der_core_head.specs.Limits.{IsLength}
use Rattle.der_core_head.specs.Fronts.{ReadsFront}
use Rattle.der_core_head.proofs.Results.{IsBytes, ok_is}
use Rattle.der_core_octets.specs.LoneLengths.{lone, lone_fault, lone_length_at}
use Rattle.der_core_octets.specs.declared.header.Header.{Header}
use Rattle.der_core_octets.specs.Headers.{head_of, AreAlike, Scans}
use Rattle.std.proofs.lemmas.List.{length-append, drop-append-le}
use Rattle.der_core_head.proofs.LeafLaws.{read_stays, fault_stays}

-- Lengths of two to five bytes

-- The bytes after the first one.
fewest-1 : (t : Tag) (first : ℕ) (w : List ℕ) → first ≡ 129 → 1 ≤ length w → get_or w 0 0 < 256
    → length_at t (first ∷ w) ≡ cond (ltb (get_or w 0 0) 128) (Err (kinds.Length t)) (Ok (get_or w 0 0, drop 1 w))
fewest-1 t first [] e l a = absurd (omega arith)
fewest-1 t first (d ∷ w) e l a = rw e (length_at-1 t d w a)

fewest-2 : (t : Tag) (first : ℕ) (w : List ℕ) → first ≡ 130 → 2 ≤ length w → get_or w 0 0 < 256 → get_or w 1 0 < 256
    → length_at t (first ∷ w) ≡ cond (eqb (get_or w 0 0) 0) (Err (kinds.Length t)) (Ok (get_or w 0 0 * 256 + get_or w 1 0, drop 2 w))
fewest-2 t first (d ∷ f ∷ w) e l a b = rw e (length_at-2 t d f w a b)
fewest-2 t first _ e l a b = absurd (omega arith)

fewest-3 : (t : Tag) (first : ℕ) (w : List ℕ) → first ≡ 131 → 3 ≤ length w → get_or w 0 0 < 256 → get_or w 1 0 < 256 → get_or w 2 0 < 256
    → length_at t (first ∷ w) ≡ cond (eqb (get_or w 0 0) 0) (Err (kinds.Length t)) (Ok (get_or w 0 0 * 65536 + get_or w 1 0 * 256 + get_or w 2 0, drop 3 w))
fewest-3 t first (d ∷ f ∷ g ∷ w) e l a b c = rw e (length_at-3 t d f g w a b c)
fewest-3 t first _ e l a b c = absurd (omega arith)

fewest-4 : (t : Tag) (first : ℕ) (w : List ℕ) → first ≡ 132 → 4 ≤ length w → get_or w 0 0 < 256 → get_or w 1 0 < 256 → get_or w 2 0 < 256 → get_or w 3 0 < 256
    → length_at t (first ∷ w) ≡ cond (eqb (get_or w 0 0) 0) (Err (kinds.Length t)) (Ok (get_or w 0 0 * 16777216 + get_or w 1 0 * 65536 + get_or w 2 0 * 256 + get_or w 3 0, drop 4 w))
fewest-4 t first (h ∷ i ∷ j ∷ k ∷ w) e l a b c d = rw e (length_at-4 t h i j k w a b c d)
fewest-4 t first _ e l a b c d = absurd (omega arith)

pub long-1 : (t : Tag) (first : ℕ) (w : List ℕ) (v : ℕ) → first ≡ 129 → 1 ≤ length w → ((i : ℕ) → get_or w i 0 < 256) → v ≡ get_or w 0 0 → 128 ≤ v
    → length_at t (first ∷ w) ≡ Ok (v, drop 1 w)
long-1 t first w v e l h is some = rw (fewest-1 t first w e l (h 0), ← is, le-ltb v 128 some) refl

pub long-2 : (t : Tag) (first : ℕ) (w : List ℕ) (v : ℕ) → first ≡ 130 → 2 ≤ length w → ((i : ℕ) → get_or w i 0 < 256) → v ≡ 256 * get_or w 0 0 + get_or w 1 0 → 0 < get_or w 0 0
    → length_at t (first ∷ w) ≡ Ok (v, drop 2 w)
long-2 t first w v e l h is some =
    let same : get_or w 0 0 * 256 + get_or w 1 0 ≡ v = omega arith in
    rw (fewest-2 t first w e l (h 0) (h 1), ne_eqb (get_or w 0 0) 0 (λ z. omega arith), same) refl

pub long-3 : (t : Tag) (first : ℕ) (w : List ℕ) (v : ℕ) → first ≡ 131 → 3 ≤ length w → ((i : ℕ) → get_or w i 0 < 256) → v ≡ 256 * (256 * get_or w 0 0 + get_or w 1 0) + get_or w 2 0
    → 0 < get_or w 0 0 → length_at t (first ∷ w) ≡ Ok (v, drop 3 w)
long-3 t first w v e l h is some =
    let same : get_or w 0 0 * 65536 + get_or w 1 0 * 256 + get_or w 2 0 ≡ v = omega arith in
    rw (fewest-3 t first w e l (h 0) (h 1) (h 2), ne_eqb (get_or w 0 0) 0 (λ z. omega arith), same) refl

pub long-4 : (t : Tag) (first : ℕ) (w : List ℕ) (v : ℕ) → first ≡ 132 → 4 ≤ length w → ((i : ℕ) → get_or w i 0 < 256)
    → v ≡ 256 * (256 * (256 * get_or w 0 0 + get_or w 1 0) + get_or w 2 0) + get_or w 3 0 → 0 < get_or w 0 0 → length_at t (first ∷ w) ≡ Ok (v, drop 4 w)
long-4 t first w v e l h is some =
    let same : get_or w 0 0 * 16777216 + get_or w 1 0 * 65536 + get_or w 2 0 * 256 + get_or w 3 0 ≡ v = omega arith in
    rw (fewest-4 t first w e l (h 0) (h 1) (h 2) (h 3), ne_eqb (get_or w 0 0) 0 (λ z. omega arith), same) refl

pub low-1 : (t : Tag) (first : ℕ) (w : List ℕ) → first ≡ 129 → 1 ≤ length w → get_or w 0 0 < 128 → length_at t (first ∷ w) ≡ Err (kinds.Length t)
low-1 t first w e l h = rw (fewest-1 t first w e l (omega arith), lt-ltb (get_or w 0 0) 128 h) refl

pub zero-more : (t : Tag) (first : ℕ) (w : List ℕ) → 129 < first → first < 133 → first - 128 ≤ length w → ((i : ℕ) → get_or w i 0 < 256) → get_or w 0 0 ≡ 0
    → length_at t (first ∷ w) ≡ Err (kinds.Length t)
zero-more t first w low high l h z =
    elim (cases_lt first 131) [
      | inl two ↦ rw (fewest-2 t first w (omega arith) (omega arith) (h 0) (h 1), eq-eqb (get_or w 0 0) 0 z) refl
      | inr more ↦ elim (cases_lt first 132) [
        | inl three ↦ rw (fewest-3 t first w (omega arith) (omega arith) (h 0) (h 1) (h 2), eq-eqb (get_or w 0 0) 0 z) refl
        | inr four ↦ rw (fewest-4 t first w (omega arith) (omega arith) (h 0) (h 1) (h 2) (h 3), eq-eqb (get_or w 0 0) 0 z) refl
      ]
    ]

-- Bytes that aren't a length

pub is_fault : {A : Type 0} (r : Result A ErrorKind) (k : ErrorKind) → r ≡ Err k → IsErr r
is_fault r k e = rw e refl

-- A first byte below 128 is a length.
pub fault-first : (t : Tag) (first : ℕ) (w : List ℕ) → IsErr (length_at t (first ∷ w)) → 128 ≤ first
unfolding length_at
fault-first t first w e = grind (arith, nat_tests)

stands : (t : Tag) (first : ℕ) (w : List ℕ) → 128 < first → first < 133 → first - 128 ≤ length w
    → length_at t (first ∷ w) ≡ shortest t first (take (first - 128) w) (drop (first - 128) w)
unfolding length_at
stands t first w low high l =
    rw (le-ltb first 128 (omega arith), ne_eqb first 128 (λ z. omega arith), le-ltb 132 first (omega arith), le-ltb (length w) (first - 128) l) refl

-- If all digits are there, the error is that of their form.
pub fault-form : (t : Tag) (first : ℕ) (w : List ℕ) → IsErr (length_at t (first ∷ w)) → 128 < first → first < 133 → first - 128 ≤ length w
    → length_at t (first ∷ w) ≡ Err (kinds.Length t)
fault-form t first w e low high l =
    let is = stands t first w low high l in
    is ∙ form _ _ (rw is at e)
  where
    form : (b : Bool) (y : ℕ × List ℕ) → IsErr (cond b (Ok y) (Err (kinds.Length t))) → cond b (Ok y) (Err (kinds.Length t)) ≡ Err (kinds.Length t)
    form true y e = absurd cc
    form false y e = refl

-- The first byte

-- The bytes after it.
abbrev behind : List ℕ → List ℕ
behind w = take (length w - 1) (drop 1 w)

behind-is : (w : List ℕ) → behind w ≡ drop 1 w
behind-is w = take_all (length w - 1) (drop 1 w) (omega (arith, length-drop 1 w))

pub longer : (t : Tag) (w : List ℕ) (v : ℕ) → 1 ≤ length w → 128 ≤ get_or w 0 0
    → length_at t (get_or w 0 0 ∷ behind w) ≡ Ok (v, drop (get_or w 0 0 - 128) (behind w)) → length_at t w ≡ Ok (v, drop (get_or w 0 0 - 127) w)
longer t [] v l h e = absurd (omega arith)
longer t (a ∷ w) v l h e =
    let same : a - 127 ≡ suc (a - 128) = omega arith in
    rw same (rw (behind-is (a ∷ w)) at e)

pub fault-none : (t : Tag) (w : List ℕ) → length w < 1 → length_at t w ≡ Err kinds.Incomplete
unfolding length_at
fault-none t [] l = refl
fault-none t (a ∷ w) l = absurd (omega arith)

pub fault-indefinite : (t : Tag) (w : List ℕ) → 1 ≤ length w → get_or w 0 0 ≡ 128 → length_at t w ≡ Err kinds.IndefiniteLength
fault-indefinite t [] l e = absurd (omega arith)
fault-indefinite t (a ∷ w) l e = rw e (length_at-indefinite t w)

pub fault-many : (t : Tag) (w : List ℕ) → 1 ≤ length w → 132 < get_or w 0 0 → length_at t w ≡ Err kinds.Overlength
fault-many t [] l h = absurd (omega arith)
fault-many t (a ∷ w) l h = length_at-large t a w h

pub fault-cut : (t : Tag) (w : List ℕ) → IsErr (length_at t w) → 1 ≤ length w → get_or w 0 0 ≢ 128 → get_or w 0 0 ≤ 132 → length w - 1 < get_or w 0 0 % 128
    → length_at t w ≡ Err kinds.Incomplete
fault-cut t [] e l n h s = absurd (omega arith)
fault-cut t (a ∷ w) e l n h s =
    let long : 128 < a = omega (arith, fault-first t a w e, n) in
    length_at-cut t a w long (omega arith) (omega arith)

pub fault-shape : (t : Tag) (w : List ℕ) → IsErr (length_at t w) → 1 ≤ length w → get_or w 0 0 ≢ 128 → get_or w 0 0 ≤ 132 → get_or w 0 0 % 128 ≤ length w - 1
    → length_at t w ≡ Err (kinds.Length t)
fault-shape t [] e l n h s = absurd (omega arith)
fault-shape t (a ∷ w) e l n h s =
    let long : 128 < a = omega (arith, fault-first t a w e, n) in
    fault-form t a w e long (omega arith) (omega arith)

-- A header whose tag has one byte.
pub plain : (w : List ℕ) (t : Tag) (n count : ℕ) → 1 ≤ length w → ((r : List ℕ) → tag_at (get_or w 0 0 ∷ r) ≡ Ok (t, r))
    → length_at t (behind w) ≡ Ok (n, drop count (behind w)) → head_at w ≡ Ok (record { tag = t; len = n }, drop (1 + count) w)
unfolding head_at
plain [] t n count l tag len = absurd (omega arith)
plain (a ∷ w) t n count l tag len =
    let rest : length_at t w ≡ Ok (n, drop count w) = rw (behind-is (a ∷ w)) at len in
    let more : 1 + count ≡ suc count = omega arith in
    rw (tag w, rest, more) refl

pub behind-le : (w : List ℕ) (n : ℕ) → 1 ≤ length w → n ≤ length (behind w) → 1 + n ≤ length w
behind-le w n l h = omega (arith, ap (λ (u : List ℕ). length u) (behind-is w), length-drop 1 w)

-- A length without a tag is decoded as one after a tag, except for the error `Length`

pub lone_is : (w : List ℕ) (r : Result (ℕ × List ℕ) ErrorKind) → length_at tags.Null w ≡ r → lone_length_at w ≡ lone r
unfolding lone_length_at
lone_is w r e = ap lone e

pub other_fault : (k : ErrorKind) → ((t : Tag) → k ≢ kinds.Length t) → lone_fault k ≡ k
other_fault (kinds.Length t) h = absurd (h t refl)
other_fault k h = refl

pub lone_spelled : (w : List ℕ) (r : Result (Length × ℕ) Error) → IsBytes w → ReadsFront (λ (l : Length). l.value) w r lone_length_at
    → IfOk r (λ x. w ≡ length_octets x.0.value ++ drop x.1 w)
unfolding lone_length_at
lone_spelled w (Ok x) bytes h = (length_sound tags.Null w x.0.value (drop x.1 w) bytes (grind (arith, nat_tests))).0
lone_spelled w (Err e) bytes h = tt

pub lone_again : (n : ℕ) (r : List ℕ) → IsLength n → lone_length_at (length_octets n ++ r) ≡ Ok (n, r)
lone_again n r fits = lone_is (length_octets n ++ r) (Ok (n, r)) (length_again tags.Null n r fits)

-- Decoded lengths and headers are their encodings

pub length_spelled : (t : Tag) (w : List ℕ) (r : Result (Length × ℕ) Error) → IsBytes w → ReadsFront (λ (l : Length). l.value) w r (length_at t) → IfOk r (λ x. w ≡ length_octets x.0.value ++ drop x.1 w)
length_spelled t w (Ok x) bytes h = (length_sound t w x.0.value (drop x.1 w) bytes h.0).0
length_spelled t w (Err e) bytes h = tt

pub head_spelled : (w : List ℕ) (r : Result (Header × ℕ) Error) → IsBytes w → ReadsFront head_of w r head_at → IfOk r (λ x. IsTag x.0.tag × (w ≡ head_octets x.0.tag x.0.length.value ++ drop x.1 w))
head_spelled w (Ok x) bytes h =
    let s = head_sound w (head_of x.0) (drop x.1 w) bytes h.0 in
    (s.1, s.0)
head_spelled w (Err e) bytes h = tt

-- A result of scanning stays the same for longer inputs

pub scans_longer : (w more : List ℕ) (r : Result (Option (Header × ℕ)) Error) → Scans w r → r ≢ Ok None → Scans (w ++ more) r
scans_longer w more (Ok (Some x)) h other =
    let rest : drop x.1 (w ++ more) ≡ drop x.1 w ++ more = drop-append-le x.1 w more h.1 in
    (read_stays (head_of x.0) (drop x.1 w) w more h.0 ∙ ap (λ (q : List ℕ). Ok (head_of x.0, q)) (sym rest), omega (arith, h.1, length-append w more))
scans_longer w more (Ok None) h other = absurd (other refl)
scans_longer w more (Err e) h other = (fault_stays e.kind w more h.0 h.1, h.1)

-- The scanned bytes have the same result without the bytes after them

front_is : (w : List ℕ) (x y : Header × ℕ) → Scans w (Ok (Some x)) → Scans w (Ok (Some y)) → x ≡ y
front_is w x y h i =
    let both = ok_is (head_of x.0, drop x.1 w) (head_of y.0, drop y.1 w) (sym h.0 ∙ i.0) in
    let header : x.0 ≡ y.0 = ap (λ (q : Head × List ℕ). record { tag = q.0.tag; length = record { value = q.0.len } }) both in
    let rest : drop x.1 w ≡ drop y.1 w = ap (λ (q : Head × List ℕ). q.1) both in
    let count : x.1 ≡ y.1 = omega (arith, h.1, i.1, length-drop x.1 w, length-drop y.1 w, ap (λ (q : List ℕ). length q) rest) in
    let pair : Header → ℕ → Header × ℕ = λ h n. (h, n) in
    ap (λ h. pair h x.1) header ∙ ap (pair y.0) count

pub scans_alike : (w : List ℕ) (r s : Result (Option (Header × ℕ)) Error) → Scans w r → Scans w s → AreAlike r s
scans_alike w (Ok (Some x)) (Ok (Some y)) h i = ap Some (front_is w x y h i)
scans_alike w (Ok (Some x)) (Ok None) h i = absurd (cc (h.0, i))
scans_alike w (Ok (Some x)) (Err e) h i = absurd (cc (h.0, i.0))
scans_alike w (Ok None) (Ok (Some y)) h i = absurd (cc (h, i.0))
scans_alike w (Ok None) (Ok None) h i = refl
scans_alike w (Ok None) (Err e) h i =
    let ran_out : e.kind ≡ kinds.Incomplete = cc (h, i.0) in
    absurd (i.1 ran_out)
scans_alike w (Err d) (Ok (Some y)) h i = absurd (cc (h.0, i.0))
scans_alike w (Err d) (Ok None) h i =
    let ran_out : d.kind ≡ kinds.Incomplete = cc (h.0, i) in
    absurd (h.1 ran_out)
scans_alike w (Err d) (Err e) h i = cc (h.0, i.0)
