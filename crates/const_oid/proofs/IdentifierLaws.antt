-- Lemmas about decoding identifiers: accepted bytes are the encoding of the result, rejected bytes
-- have the error of their shortest wrong prefix, and the encoding of an identifier decodes to it.
use Rattle.std.proofs.Common.{◌≡◌, ◌≢◌, ℕ, zero, suc, ◌+◌, ◌*◌, ◌/◌, ◌%◌, ◌<◌, ◌≤◌, ◌&&◌, ◌==◌, ◌⊎◌, inl, inr, false, eqb, List, [], ◌∷◌, ◌++◌, length, get_or, map, Result, Ok, Err, MatchResult, sym, refl, ap, subst, ◌∙◌, arith, append_assoc, append-nil, length-append, ne_eqb}
use Rattle.std.specs.List.{AllByRecursion, flat_map}
use Rattle.std.proofs.lemmas.Bool.{cases_lt, cases_eq, lt-ltb, le-ltb}
use Rattle.std.proofs.lemmas.Bool.Decides.{nat_tests}
use Rattle.std.proofs.lemmas.Grind.{flat_map-append}
use Rattle.std.proofs.lemmas.List.{map-append}
use Rattle.const_oid.specs.declared.error.Error.{Error}
use Rattle.const_oid.specs.declared.error.Error.TheVariants as errors
use Rattle.const_oid.specs.Digits.{digits, marked}
use Rattle.const_oid.specs.IdentifierOctets.{arc_octets, identifier_octets, IsIdentifier, with_arc, read_arcs, read_identifier}
use Rattle.const_oid.specs.OctetFaults.{begun, IsOpen, IsArcFault, leading_zero, unfinished, IsOctetsFault, no_octet, too_long, root_invalid, arc}
use Rattle.const_oid.specs.OctetFaults as faults
use Rattle.const_oid.proofs.DigitLaws.{digits-Digits, digits-one, digits-push, marked-push, marked_below}

-- One step of decoding arcs

-- The cases of the next byte after an unfinished arc of this value.
pub data Step (bound value o : ℕ) : Type 0 where
  leading : value ≡ 0 → o ≡ 128 → Step bound value o
  too_big : ((value ≡ 0) × (o ≡ 128) → ⊥) → bound ≤ value * 128 + o % 128 → Step bound value o
  last : ((value ≡ 0) × (o ≡ 128) → ⊥) → value * 128 + o % 128 < bound → o < 128 → Step bound value o
  more : ((value ≡ 0) × (o ≡ 128) → ⊥) → value * 128 + o % 128 < bound → 128 ≤ o → Step bound value o

pub step : (bound value o : ℕ) → Step bound value o
step bound value o = by (cases_eq value 0) (cases_eq o 128) (cases_lt (value * 128 + o % 128) bound) (cases_lt o 128)
  where
    next : ((value ≡ 0) × (o ≡ 128) → ⊥) → (value * 128 + o % 128 < bound) ⊎ (bound ≤ value * 128 + o % 128) → (o < 128) ⊎ (128 ≤ o) → Step bound value o
    next free (inr large) _ = too_big free large
    next free (inl fits) (inl l) = last free fits l
    next free (inl fits) (inr l) = more free fits l

    by : (value ≡ 0) ⊎ (value ≡ 0 → ⊥) → (o ≡ 128) ⊎ (o ≡ 128 → ⊥) → (value * 128 + o % 128 < bound) ⊎ (bound ≤ value * 128 + o % 128)
        → (o < 128) ⊎ (128 ≤ o) → Step bound value o
    by (inl v) (inl e) p q = leading v e
    by (inl v) (inr e) p q = next (λ h. e h.1) p q
    by (inr v) e p q = next (λ h. v h.0) p q

free-test : (value o : ℕ) → ((value ≡ 0) × (o ≡ 128) → ⊥) → ((value == 0) && (o == 128)) ≡ false
free-test value o free = grind (arith, nat_tests)

pub read_arcs-end : (bound : ℕ) → read_arcs bound 0 [] ≡ Ok []
read_arcs-end bound = refl

pub read_arcs-cut : (bound value : ℕ) → 0 < value → read_arcs bound value [] ≡ Err errors.Base128
read_arcs-cut bound value l =
    let e : eqb value 0 ≡ false = ne_eqb value 0 (λ h. omega arith) in
    rw (e, read_arcs) refl

pub read_arcs-leading : (bound value o : ℕ) (w : List ℕ) → value ≡ 0 → o ≡ 128 → read_arcs bound value (o ∷ w) ≡ Err errors.Base128
read_arcs-leading bound value o w v e = rw (v, e) refl

pub read_arcs-too_big : (bound value o : ℕ) (w : List ℕ) → ((value ≡ 0) × (o ≡ 128) → ⊥) → bound ≤ value * 128 + o % 128
    → read_arcs bound value (o ∷ w) ≡ Err errors.ArcTooBig
read_arcs-too_big bound value o w free large = rw (free-test value o free, le-ltb (value * 128 + o % 128) bound large, read_arcs) refl

pub read_arcs-last : (bound value o : ℕ) (w : List ℕ) → ((value ≡ 0) × (o ≡ 128) → ⊥) → value * 128 + o % 128 < bound → o < 128
    → read_arcs bound value (o ∷ w) ≡ with_arc (value * 128 + o % 128) (read_arcs bound 0 w)
read_arcs-last bound value o w free fits l = rw (free-test value o free, lt-ltb (value * 128 + o % 128) bound fits, lt-ltb o 128 l, read_arcs) refl

pub read_arcs-more : (bound value o : ℕ) (w : List ℕ) → ((value ≡ 0) × (o ≡ 128) → ⊥) → value * 128 + o % 128 < bound → 128 ≤ o
    → read_arcs bound value (o ∷ w) ≡ read_arcs bound (value * 128 + o % 128) w
read_arcs-more bound value o w free fits l = rw (free-test value o free, lt-ltb (value * 128 + o % 128) bound fits, le-ltb o 128 l, read_arcs) refl

-- The first byte

-- The cases of the first byte.
pub data Root (bound capacity r : ℕ) (w : List ℕ) : Type 0 where
  long : capacity < length (r ∷ w) → read_identifier bound capacity (r ∷ w) ≡ Err errors.Length → Root bound capacity r w
  invalid : length (r ∷ w) ≤ capacity → 120 ≤ r → read_identifier bound capacity (r ∷ w) ≡ Err (errors.ArcInvalid (r / 40)) → Root bound capacity r w
  valid : length (r ∷ w) ≤ capacity → r < 120 → read_identifier bound capacity (r ∷ w) ≡ with_arc (r / 40) (with_arc (r % 40) (read_arcs bound 0 w)) → Root bound capacity r w

pub root : (bound capacity r : ℕ) (w : List ℕ) → Root bound capacity r w
root bound capacity r w = by (cases_lt capacity (length (r ∷ w))) (cases_lt r 120)
  where
    by : (capacity < length (r ∷ w)) ⊎ (length (r ∷ w) ≤ capacity) → (r < 120) ⊎ (120 ≤ r) → Root bound capacity r w
    by (inl l) _ = long l (rw (lt-ltb capacity (length (r ∷ w)) l, read_identifier) refl)
    by (inr l) (inl small) = valid l small (rw (le-ltb capacity (length (r ∷ w)) l, lt-ltb r 120 small, read_identifier) refl)
    by (inr l) (inr large) = invalid l large (rw (le-ltb capacity (length (r ∷ w)) l, le-ltb r 120 large, read_identifier) refl)

-- If the arcs with one before them are decoded, so are the arcs.
pub with_arc-ok : (a : ℕ) (r : Result (List ℕ) Error) (arcs : List ℕ) → with_arc a r ≡ Ok arcs → (rest : List ℕ) × (r ≡ Ok rest) × (arcs ≡ a ∷ rest)
with_arc-ok a (Ok rest) arcs e = (rest, refl, cc)
with_arc-ok a (Err x) arcs e = cc

-- If an identifier is decoded, so are its first byte and the bytes after it.
pub root_ok : (bound capacity r : ℕ) (w arcs : List ℕ) → read_identifier bound capacity (r ∷ w) ≡ Ok arcs
    → (later : List ℕ) × (r < 120) × (read_arcs bound 0 w ≡ Ok later) × (arcs ≡ r / 40 ∷ r % 40 ∷ later)
root_ok bound capacity r w arcs ok = by (root bound capacity r w)
  where
    by : Root bound capacity r w → (later : List ℕ) × (r < 120) × (read_arcs bound 0 w ≡ Ok later) × (arcs ≡ r / 40 ∷ r % 40 ∷ later)
    by (long l read) = absurd cc
    by (invalid l large read) = absurd cc
    by (valid l small read) =
        let first = with_arc-ok (r / 40) (with_arc (r % 40) (read_arcs bound 0 w)) arcs (sym read ∙ ok) in
        let second = with_arc-ok (r % 40) (read_arcs bound 0 w) first.0 first.1 in
        (second.0, small, second.1, first.2 ∙ ap (λ t. r / 40 ∷ t) second.2)

-- Encoding one more arc

pub identifier_octets-push : (bound : ℕ) (arcs : List ℕ) (a : ℕ) → IsIdentifier bound arcs → identifier_octets (arcs ++ (a ∷ [])) ≡ identifier_octets arcs ++ arc_octets a
unfolding identifier_octets IsIdentifier
identifier_octets-push bound (x ∷ y ∷ arcs) a id =
    ap (λ t. (40 * x + y) ∷ t) (flat_map-append arc_octets arcs (a ∷ []) ∙ ap (λ t. flat_map arc_octets arcs ++ t) (append-nil (arc_octets a)))
identifier_octets-push bound _ a id = absurd id

pub all-push : (bound : ℕ) (arcs : List ℕ) (a : ℕ) → AllByRecursion (λ n. n < bound) arcs → a < bound → AllByRecursion (λ n. n < bound) (arcs ++ (a ∷ []))
all-push bound [] a all l = (l, tt)
all-push bound (b ∷ arcs) a all l = (all.0, all-push bound arcs a all.1 l)

pub IsIdentifier-push : (bound : ℕ) (arcs : List ℕ) (a : ℕ) → IsIdentifier bound arcs → a < bound → IsIdentifier bound (arcs ++ (a ∷ []))
unfolding IsIdentifier
IsIdentifier-push bound (x ∷ y ∷ arcs) a id l = (id.0, id.1, all-push bound arcs a id.2 l)
IsIdentifier-push bound _ a id l = absurd id

-- Accepted bytes and the errors of rejected bytes

pub begun-some : (n : ℕ) → 0 < n → begun n ≡ map (λ d. 128 + d) (digits 128 n)
unfolding begun
begun-some zero l = absurd (omega arith)
begun-some (suc n) l = refl

pub arc_octets-finish : (value o : ℕ) → o < 128 → arc_octets (value * 128 + o % 128) ≡ begun value ++ (o ∷ [])
unfolding arc_octets marked begun
arc_octets-finish zero o l =
    let n : 0 * 128 + o % 128 ≡ o = omega arith in
    rw (n, digits-one 128 o l) refl
arc_octets-finish (suc v) o l =
    let n : o % 128 ≡ o = omega arith in
    rw (n, digits-push 128 (suc v) o (omega arith) (omega arith) l, marked-push) refl

pub begun-push : (value o : ℕ) → ((value ≡ 0) × (o ≡ 128) → ⊥) → 128 ≤ o → o < 256 → begun (value * 128 + o % 128) ≡ begun value ++ (o ∷ [])
unfolding begun
begun-push zero o free l k =
    let ne : o ≢ 128 = λ h. free (refl, h) in
    let n : 0 * 128 + o % 128 ≡ o % 128 = omega arith in
    let m : 128 + o % 128 ≡ o = omega arith in
    begun-some (0 * 128 + o % 128) (omega arith) ∙ rw (n, digits-one 128 (o % 128) (omega arith), m) refl
begun-push (suc v) o free l k =
    let m : 128 + o % 128 ≡ o = omega arith in
    begun-some (suc v * 128 + o % 128) (omega arith)
    ∙ rw (digits-push 128 (suc v) (o % 128) (omega arith) (omega arith) (omega arith), map-append, m) refl

-- The meaning of a result after a prefix without an error.
abbrev Judged : (bound : ℕ) → List ℕ → List ℕ → Result (List ℕ) Error → Type 0
Judged bound w arcs r = MatchResult r (λ later. IsIdentifier bound (arcs ++ later) × (w ≡ identifier_octets (arcs ++ later))) (λ e. IsArcFault bound w e)

judged_arc : (bound a : ℕ) (w arcs : List ℕ) (r : Result (List ℕ) Error) → Judged bound w (arcs ++ (a ∷ [])) r → Judged bound w arcs (with_arc a r)
judged_arc bound a w arcs (Ok later) j = subst (λ t. IsIdentifier bound t × (w ≡ identifier_octets t)) (append_assoc arcs (a ∷ []) later) j
judged_arc bound a w arcs (Err e) j = j

arcs_judged : (bound value : ℕ) (front w arcs : List ℕ) → ((i : ℕ) → get_or w i 0 < 256) → IsOpen bound front arcs value → Judged bound (front ++ w) arcs (read_arcs bound value w)
unfolding begun
arcs_judged bound zero front [] arcs bytes opened =
    subst (λ t. IsIdentifier bound t × (front ++ [] ≡ identifier_octets t)) (sym (append-nil arcs))
    (opened.identifier, append-nil front ∙ opened.octets ∙ append-nil (identifier_octets arcs))
arcs_judged bound (suc n) front [] arcs bytes opened =
    subst (Judged bound (front ++ []) arcs) (sym (read_arcs-cut bound (suc n) (omega arith)))
    (unfinished arcs (suc n) (subst (λ t. IsOpen bound t arcs (suc n)) (sym (append-nil front)) opened) (omega arith))
arcs_judged bound value front (o ∷ w) arcs bytes opened = by (step bound value o) (λ value front arcs. arcs_judged bound value front w arcs (λ i. bytes (suc i)))
  where
    whole : (front ++ (o ∷ [])) ++ w ≡ front ++ (o ∷ w)
    whole = append_assoc front (o ∷ []) w

    pushed : front ++ (o ∷ []) ≡ identifier_octets arcs ++ (begun value ++ (o ∷ []))
    pushed = ap (λ t. t ++ (o ∷ [])) opened.octets ∙ append_assoc (identifier_octets arcs) (begun value) (o ∷ [])

    by : Step bound value o → ((value : ℕ) (front arcs : List ℕ) → IsOpen bound front arcs value → Judged bound (front ++ w) arcs (read_arcs bound value w))
        → Judged bound (front ++ (o ∷ w)) arcs (read_arcs bound value (o ∷ w))
    by (leading v e) ih =
        subst (Judged bound (front ++ (o ∷ w)) arcs) (sym (read_arcs-leading bound value o w v e))
        (leading_zero front w arcs (ap (λ x. front ++ (x ∷ w)) e) (subst (IsOpen bound front arcs) v opened))
    by (too_big free large) ih =
        subst (Judged bound (front ++ (o ∷ w)) arcs) (sym (read_arcs-too_big bound value o w free large))
        (faults.too_big front w arcs value o refl opened free large)
    by (last free fits l) ih =
        let a = value * 128 + o % 128 in
        let octets : front ++ (o ∷ []) ≡ identifier_octets (arcs ++ (a ∷ [])) ++ [] =
        pushed ∙ ap (λ t. identifier_octets arcs ++ t) (sym (arc_octets-finish value o l))
        ∙ sym (append-nil (identifier_octets (arcs ++ (a ∷ []))) ∙ identifier_octets-push bound arcs a opened.identifier) in
        let next = ih 0 (front ++ (o ∷ [])) (arcs ++ (a ∷ [])) (record { identifier = IsIdentifier-push bound arcs a opened.identifier fits; within = λ z. absurd (omega arith); octets = octets }) in
        subst (Judged bound (front ++ (o ∷ w)) arcs) (sym (read_arcs-last bound value o w free fits l))
        (judged_arc bound a (front ++ (o ∷ w)) arcs (read_arcs bound 0 w) (subst (λ t. Judged bound t (arcs ++ (a ∷ [])) (read_arcs bound 0 w)) whole next))
    by (more free fits l) ih =
        let a = value * 128 + o % 128 in
        let octets = pushed ∙ ap (λ t. identifier_octets arcs ++ t) (sym (begun-push value o free l (bytes 0))) in
        subst (Judged bound (front ++ (o ∷ w)) arcs) (sym (read_arcs-more bound value o w free fits l))
        (subst (λ t. Judged bound t arcs (read_arcs bound a w)) whole (ih a (front ++ (o ∷ [])) arcs (record { identifier = opened.identifier; within = λ _. fits; octets = octets })))

-- The result after the first byte has this meaning.
root_judged : (bound r : ℕ) (w : List ℕ) → r < 120 → ((i : ℕ) → get_or w i 0 < 256) → Judged bound (r ∷ w) (r / 40 ∷ r % 40 ∷ []) (read_arcs bound 0 w)
unfolding IsIdentifier identifier_octets begun
root_judged bound r w small bytes =
    let e : r ≡ 40 * (r / 40) + r % 40 = omega arith in
    arcs_judged bound 0 (r ∷ []) w (r / 40 ∷ r % 40 ∷ []) bytes
    (record { identifier = (omega arith, omega arith, tt); within = λ z. absurd (omega arith); octets = ap (λ x. x ∷ []) e })

-- A result is the identifier of the bytes, or their error.
abbrev pub JudgedOctets : (bound capacity : ℕ) → List ℕ → Result (List ℕ) Error → Type 0
JudgedOctets bound capacity w r =
    MatchResult r (λ arcs. IsIdentifier bound arcs × (length w ≤ capacity) × (w ≡ identifier_octets arcs)) (λ e. IsOctetsFault bound capacity w e)

pub judged : (bound capacity : ℕ) (w : List ℕ) → ((i : ℕ) → get_or w i 0 < 256) → JudgedOctets bound capacity w (read_identifier bound capacity w)
judged bound capacity [] bytes = no_octet refl
judged bound capacity (r ∷ w) bytes = by (root bound capacity r w)
  where
    placed : length (r ∷ w) ≤ capacity → (q : Result (List ℕ) Error) → Judged bound (r ∷ w) (r / 40 ∷ r % 40 ∷ []) q → JudgedOctets bound capacity (r ∷ w) (with_arc (r / 40) (with_arc (r % 40) q))
    placed fits (Ok later) j = (j.0, fits, j.1)
    placed fits (Err e) j = arc e fits j

    by : Root bound capacity r w → JudgedOctets bound capacity (r ∷ w) (read_identifier bound capacity (r ∷ w))
    by (long l read) = subst (JudgedOctets bound capacity (r ∷ w)) (sym read) (too_long l)
    by (invalid l large read) = subst (JudgedOctets bound capacity (r ∷ w)) (sym read) (root_invalid r w refl l large)
    by (valid l small read) = subst (JudgedOctets bound capacity (r ∷ w)) (sym read) (placed l (read_arcs bound 0 w) (root_judged bound r w small (λ i. bytes (suc i))))

pub identifier_sound : (bound capacity : ℕ) (w arcs : List ℕ) → ((i : ℕ) → get_or w i 0 < 256) → read_identifier bound capacity w ≡ Ok arcs
    → IsIdentifier bound arcs × (length w ≤ capacity) × (w ≡ identifier_octets arcs)
identifier_sound bound capacity w arcs bytes ok = subst (JudgedOctets bound capacity w) ok (judged bound capacity w bytes)

pub fault_found : (bound capacity : ℕ) (w : List ℕ) (e : Error) → ((i : ℕ) → get_or w i 0 < 256) → read_identifier bound capacity w ≡ Err e → IsOctetsFault bound capacity w e
fault_found bound capacity w e bytes err = subst (JudgedOctets bound capacity w) err (judged bound capacity w bytes)

-- Decoding the encoding of an identifier

-- All bytes of an arc but the last are those of an unfinished arc.
pub begun-split : (v : ℕ) → 0 < v → begun v ≡ begun (v / 128) ++ ((128 + v % 128) ∷ [])
begun-split v some =
    let n : v / 128 * 128 + (128 + v % 128) % 128 ≡ v = omega arith in
    ap begun (sym n) ∙ begun-push (v / 128) (128 + v % 128) (λ h. omega (arith, h.0, h.1)) (omega arith) (omega arith)

pub length-begun : (v : ℕ) → 0 < v → length (begun v) ≡ length (begun (v / 128)) + 1
length-begun v some = ap length (begun-split v some) ∙ length-append (begun (v / 128)) ((128 + v % 128) ∷ [])

pub arc_octets-split : (a : ℕ) → arc_octets a ≡ begun (a / 128) ++ (a % 128 ∷ [])
arc_octets-split a =
    let n : a / 128 * 128 + a % 128 % 128 ≡ a = omega arith in
    ap arc_octets (sym n) ∙ arc_octets-finish (a / 128) (a % 128) (omega arith)

pub length-arc : (a : ℕ) → length (arc_octets a) ≡ length (begun (a / 128)) + 1
length-arc a = ap length (arc_octets-split a) ∙ length-append (begun (a / 128)) (a % 128 ∷ [])

-- Decoding the bytes of an unfinished arc.
pub read_arcs-begun : (bound room v : ℕ) (w : List ℕ) → v ≤ room → (0 < v → v < bound) → read_arcs bound 0 (begun v ++ w) ≡ read_arcs bound v w
unfolding begun
read_arcs-begun bound room zero w small fits = refl
read_arcs-begun bound zero (suc v) w small fits = absurd (omega arith)
read_arcs-begun bound (suc room) (suc v) w small fits =
    let q = suc v / 128 in
    let o = 128 + suc v % 128 in
    let n : q * 128 + o % 128 ≡ suc v = omega arith in
    let below : suc v < bound = fits (omega arith) in
    ap (λ t. read_arcs bound 0 (t ++ w)) (begun-split (suc v) (omega arith))
    ∙ ap (read_arcs bound 0) (append_assoc (begun q) (o ∷ []) w)
    ∙ read_arcs-begun bound room q (o ∷ w) (omega arith) (λ _. omega arith)
    ∙ read_arcs-more bound q o w (λ h. omega (arith, h.0, h.1)) (omega arith) (omega arith)
    ∙ ap (λ x. read_arcs bound x w) n

pub read_arcs-arc : (bound a : ℕ) (w : List ℕ) → a < bound → read_arcs bound 0 (arc_octets a ++ w) ≡ with_arc a (read_arcs bound 0 w)
read_arcs-arc bound a w fits =
    let n : a / 128 * 128 + a % 128 % 128 ≡ a = omega arith in
    ap (λ t. read_arcs bound 0 (t ++ w)) (arc_octets-split a)
    ∙ ap (read_arcs bound 0) (append_assoc (begun (a / 128)) (a % 128 ∷ []) w)
    ∙ read_arcs-begun bound (a / 128) (a / 128) (a % 128 ∷ w) (omega arith) (λ _. omega arith)
    ∙ read_arcs-last bound (a / 128) (a % 128) w (λ h. omega (arith, h.1)) (omega arith) (omega arith)
    ∙ ap (λ x. with_arc x (read_arcs bound 0 w)) n

pub read_arcs-arcs : (bound : ℕ) (arcs : List ℕ) → AllByRecursion (λ n. n < bound) arcs → read_arcs bound 0 (flat_map arc_octets arcs) ≡ Ok arcs
read_arcs-arcs bound [] all = read_arcs-end bound
read_arcs-arcs bound (a ∷ arcs) all =
    read_arcs-arc bound a (flat_map arc_octets arcs) all.0 ∙ ap (with_arc a) (read_arcs-arcs bound arcs all.1)

pub identifier_again : (bound capacity : ℕ) (arcs : List ℕ) → IsIdentifier bound arcs → length (identifier_octets arcs) ≤ capacity
    → read_identifier bound capacity (identifier_octets arcs) ≡ Ok arcs
unfolding IsIdentifier identifier_octets
identifier_again bound capacity (a ∷ b ∷ arcs) id fits =
    let small : 40 * a + b < 120 = omega (arith, id.0, id.1) in
    let first : (40 * a + b) / 40 ≡ a = omega (arith, id.1) in
    let second : (40 * a + b) % 40 ≡ b = omega (arith, id.1) in
    rw (le-ltb capacity (length ((40 * a + b) ∷ flat_map arc_octets arcs)) fits, lt-ltb (40 * a + b) 120 small, first, second, read_arcs-arcs bound arcs id.2, read_identifier) refl
identifier_again bound capacity _ id fits = absurd id

-- Bytes are below 256

append_all : (P : ℕ → Type 0) (a b : List ℕ) → AllByRecursion P a → AllByRecursion P b → AllByRecursion P (a ++ b)
append_all P [] b p q = q
append_all P (x ∷ a) b p q = (p.0, append_all P a b p.1 q)

pub arc_octets_below : (n : ℕ) → AllByRecursion (λ o. o < 256) (arc_octets n)
unfolding arc_octets
arc_octets_below n = marked_below (digits 128 n) (digits-Digits 128 n (omega arith)).below

pub arcs_below : (arcs : List ℕ) → AllByRecursion (λ o. o < 256) (flat_map arc_octets arcs)
arcs_below [] = tt
arcs_below (a ∷ arcs) = append_all (λ o. o < 256) (arc_octets a) (flat_map arc_octets arcs) (arc_octets_below a) (arcs_below arcs)

pub identifier_below : (bound : ℕ) (arcs : List ℕ) → IsIdentifier bound arcs → AllByRecursion (λ o. o < 256) (identifier_octets arcs)
unfolding IsIdentifier identifier_octets
identifier_below bound (a ∷ b ∷ arcs) id = (omega (arith, id.0, id.1), arcs_below arcs)
identifier_below bound _ id = absurd id
