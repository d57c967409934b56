-- Lemmas about decoding: the decoded arcs are those that the bytes contain.
use Rattle.std.proofs.Common.{◌≡◌, ℕ, zero, suc, ◌+◌, ◌*◌, ◌/◌, ◌%◌, ◌<◌, ◌≤◌, true, ltb, List, [], ◌∷◌, length, get_or, drop, Result, Ok, Err, is_ok, Option, None, Some, MatchOption, cond, count_by, slice_get, sym, refl, ap, subst, ◌∙◌, inl, inr, arith}
use Rattle.std.proofs.lemmas.Bool.{lt-ltb, le-ltb, cases_lt}
use Rattle.std.proofs.lemmas.Bool.Decides.{nat_tests}
use Rattle.std.proofs.lemmas.List.{drop_more}
use Rattle.std.proofs.lemmas.List.Sums.{sum_by-cons}
use Rattle.std.specs.List.{AllByRecursion, flat_map}
use Rattle.const_oid.specs.declared.error.Error.{Error}
use Rattle.const_oid.specs.declared.error.Error.TheVariants as errors
use Rattle.const_oid.specs.IdentifierOctets.{arc_octets, identifier_octets, IsIdentifier, with_arc, read_arcs, read_identifier}
use Rattle.const_oid.specs.Arcs.{later_arcs, arcs_of, SpellsIdentifier}
use Rattle.const_oid.specs.Outcome.{outcome}
use Rattle.const_oid.proofs.IdentifierLaws.{Step, leading, too_big, last, more, step, read_arcs-end, read_arcs-cut, read_arcs-leading, read_arcs-too_big, read_arcs-last, read_arcs-more, with_arc-ok, root_ok, identifier_sound, identifier_again, arcs_below}

pub later_arcs-last : (value o : ℕ) (w : List ℕ) → o < 128 → later_arcs value (o ∷ w) ≡ (value * 128 + o % 128) ∷ later_arcs 0 w
unfolding later_arcs
later_arcs-last value o w l = rw (lt-ltb o 128 l, later_arcs) refl

pub later_arcs-more : (value o : ℕ) (w : List ℕ) → 128 ≤ o → later_arcs value (o ∷ w) ≡ later_arcs (value * 128 + o % 128) w
unfolding later_arcs
later_arcs-more value o w l = rw (le-ltb o 128 l, later_arcs) refl

pub later_arcs-read : (bound value : ℕ) (w arcs : List ℕ) → read_arcs bound value w ≡ Ok arcs → later_arcs value w ≡ arcs
unfolding later_arcs
later_arcs-read bound zero [] arcs ok =
    let read = read_arcs-end bound in
    cc
later_arcs-read bound (suc value) [] arcs ok =
    let read = read_arcs-cut bound (suc value) (omega arith) in
    cc
later_arcs-read bound value (o ∷ w) arcs ok = by (step bound value o) (λ value arcs. later_arcs-read bound value w arcs)
  where
    by : Step bound value o → ((value : ℕ) (arcs : List ℕ) → read_arcs bound value w ≡ Ok arcs → later_arcs value w ≡ arcs) → later_arcs value (o ∷ w) ≡ arcs
    by (leading v e) ih = let read = read_arcs-leading bound value o w v e in cc
    by (too_big free large) ih = let read = read_arcs-too_big bound value o w free large in cc
    by (last free fits l) ih =
        let arc = value * 128 + o % 128 in
        let rest = with_arc-ok arc (read_arcs bound 0 w) arcs (sym (read_arcs-last bound value o w free fits l) ∙ ok) in
        later_arcs-last value o w l ∙ ap (λ t. arc ∷ t) (ih 0 rest.0 rest.1) ∙ sym rest.2
    by (more free fits l) ih =
        let arc = value * 128 + o % 128 in
        later_arcs-more value o w l ∙ ih arc arcs (sym (read_arcs-more bound value o w free fits l) ∙ ok)

-- The capacity matters only for bytes that are longer.
pub read_identifier-within : (bound capacity : ℕ) (w : List ℕ) → length w ≤ capacity → read_identifier bound capacity w ≡ read_identifier bound (length w) w
read_identifier-within bound capacity [] l = refl
read_identifier-within bound capacity (r ∷ w) l = rw (le-ltb capacity (length (r ∷ w)) l, le-ltb (length (r ∷ w)) (length (r ∷ w)) (omega arith), read_identifier) refl

pub read_identifier-long : (bound capacity : ℕ) (w : List ℕ) → capacity < length w → read_identifier bound capacity w ≡ Err errors.Length
read_identifier-long bound capacity [] l = absurd (omega arith)
read_identifier-long bound capacity (r ∷ w) l = rw (lt-ltb capacity (length (r ∷ w)) l, read_identifier) refl

pub arcs_of-read : (bound capacity : ℕ) (w arcs : List ℕ) → read_identifier bound capacity w ≡ Ok arcs → arcs_of w ≡ arcs
unfolding arcs_of
arcs_of-read bound capacity [] arcs ok = cc
arcs_of-read bound capacity (r ∷ w) arcs ok =
    let read = root_ok bound capacity r w arcs ok in
    ap (λ t. r / 40 ∷ r % 40 ∷ t) (later_arcs-read bound 0 w read.0 read.2) ∙ sym read.3

pub arcs_of-identifier_octets : (bound : ℕ) (arcs : List ℕ) → IsIdentifier bound arcs → arcs_of (identifier_octets arcs) ≡ arcs
arcs_of-identifier_octets bound arcs id =
    arcs_of-read bound (length (identifier_octets arcs)) (identifier_octets arcs) arcs (identifier_again bound (length (identifier_octets arcs)) arcs id (omega arith))

-- If decoding succeeds, it returns some arcs.
outcome-ok : (r : Result (List ℕ) Error) → outcome r ≡ Ok tt → (arcs : List ℕ) × (r ≡ Ok arcs)
outcome-ok (Ok arcs) e = (arcs, refl)
outcome-ok (Err x) e = cc

pub read_identifier-ok : (bound : ℕ) (w : List ℕ) → outcome (read_identifier bound (length w) w) ≡ Ok tt → read_identifier bound (length w) w ≡ Ok (arcs_of w)
read_identifier-ok bound w e =
    let read = outcome-ok (read_identifier bound (length w) w) e in
    read.1 ∙ ap (λ t. Ok t) (sym (arcs_of-read bound (length w) w read.0 read.1))

outcome-err : (r : Result (List ℕ) Error) (e : Error) → outcome r ≡ Err e → r ≡ Err e
outcome-err (Ok arcs) e h = cc
outcome-err (Err x) e h = cc

pub read_identifier-err : (bound : ℕ) (w : List ℕ) (e : Error) → outcome (read_identifier bound (length w) w) ≡ Err e → read_identifier bound (length w) w ≡ Err e
read_identifier-err bound w e h = outcome-err (read_identifier bound (length w) w) e h

pub spells_from_read : (bound capacity : ℕ) (w : List ℕ) → ((i : ℕ) → get_or w i 0 < 256) → read_identifier bound capacity w ≡ Ok (arcs_of w) → SpellsIdentifier bound capacity w
spells_from_read bound capacity w bytes ok =
    let sound = identifier_sound bound capacity w (arcs_of w) bytes ok in
    record { identifier = sound.0; spelled = sound.2; fits = sound.1 }

pub spells_octets : (bound capacity : ℕ) (arcs : List ℕ) → IsIdentifier bound arcs → length (identifier_octets arcs) ≤ capacity → SpellsIdentifier bound capacity (identifier_octets arcs)
spells_octets bound capacity arcs id fits =
    let e = arcs_of-identifier_octets bound arcs id in
    record { identifier = subst (IsIdentifier bound) (sym e) id; spelled = ap identifier_octets (sym e); fits = fits }

pub is_ok-ok : (r : Result (List ℕ) Error) → is_ok r ≡ true → (arcs : List ℕ) × (r ≡ Ok arcs)
is_ok-ok (Ok arcs) e = (arcs, refl)
is_ok-ok (Err x) e = cc

pub read_identifier-is_ok : (bound : ℕ) (w : List ℕ) → is_ok (read_identifier bound (length w) w) ≡ true → read_identifier bound (length w) w ≡ Ok (arcs_of w)
read_identifier-is_ok bound w e =
    let read = is_ok-ok (read_identifier bound (length w) w) e in
    read.1 ∙ ap (λ t. Ok t) (sym (arcs_of-read bound (length w) w read.0 read.1))

-- Bytes whose decoding succeeds are the encoding of their arcs.
pub is_ok_spells : (bound : ℕ) (w : List ℕ) → ((i : ℕ) → get_or w i 0 < 256) → is_ok (read_identifier bound (length w) w) ≡ true → SpellsIdentifier bound (length w) w
is_ok_spells bound w bytes e = spells_from_read bound (length w) w bytes (read_identifier-is_ok bound w e)

-- Bytes after the first one

is_ok-with_arc : (a : ℕ) (r : Result (List ℕ) Error) → is_ok (with_arc a r) ≡ is_ok r
is_ok-with_arc a (Ok arcs) = refl
is_ok-with_arc a (Err e) = refl

pub record Octet (bound value o : ℕ) (w : List ℕ) : Type 0 where
  pub fits : value * 128 + o % 128 < bound
  pub ends : o < 128 → (later_arcs value (o ∷ w) ≡ (value * 128 + o % 128) ∷ later_arcs 0 w) × (is_ok (read_arcs bound 0 w) ≡ true)
  pub goes : 128 ≤ o → (later_arcs value (o ∷ w) ≡ later_arcs (value * 128 + o % 128) w) × (is_ok (read_arcs bound (value * 128 + o % 128) w) ≡ true) × (0 < value * 128 + o % 128)

grows : (value o : ℕ) → ((value ≡ 0) × (o ≡ 128) → ⊥) → 128 ≤ o → o < 256 → 0 < value * 128 + o % 128
grows value o free l byte = grind (arith, nat_tests)

pub octet : (bound value o : ℕ) (w : List ℕ) → o < 256 → is_ok (read_arcs bound value (o ∷ w)) ≡ true → Octet bound value o w
octet bound value o w byte ok = by (step bound value o)
  where
    by : Step bound value o → Octet bound value o w
    by (leading v e) = let read = ap is_ok (read_arcs-leading bound value o w v e) in cc
    by (too_big free large) = let read = ap is_ok (read_arcs-too_big bound value o w free large) in cc
    by (last free fits l) = record {
      fits = fits;
      ends = λ _. (later_arcs-last value o w l, sym (ap is_ok (read_arcs-last bound value o w free fits l) ∙ is_ok-with_arc (value * 128 + o % 128) (read_arcs bound 0 w)) ∙ ok);
      goes = λ k. absurd (omega arith);
    }
    by (more free fits l) = record {
      fits = fits;
      ends = λ k. absurd (omega arith);
      goes = λ _. (later_arcs-more value o w l, sym (ap is_ok (read_arcs-more bound value o w free fits l)) ∙ ok, grows value o free l byte);
    }

pub octet_at : (bound value i : ℕ) (w : List ℕ) → ((i : ℕ) → get_or w i 0 < 256) → i < length w → is_ok (read_arcs bound value (drop i w)) ≡ true
    → (drop i w ≡ get_or w i 0 ∷ drop (i + 1) w) × Octet bound value (get_or w i 0) (drop (i + 1) w)
octet_at bound value i w bytes l ok =
    let e = drop_more w i 0 l in
    (e, octet bound value (get_or w i 0) (drop (i + 1) w) (bytes i) (sym (ap (λ t. is_ok (read_arcs bound value t)) e) ∙ ok))

pub whole_end : (bound value : ℕ) → is_ok (read_arcs bound value []) ≡ true → value ≡ 0
whole_end bound zero ok = refl
whole_end bound (suc value) ok = let read = ap is_ok (read_arcs-cut bound (suc value) (omega arith)) in cc

-- If an identifier is decoded, the bytes after the first one are whole arcs.
pub later_whole : (bound capacity r : ℕ) (w : List ℕ) → is_ok (read_identifier bound capacity (r ∷ w)) ≡ true → is_ok (read_arcs bound 0 w) ≡ true
later_whole bound capacity r w ok =
    let read = is_ok-ok (read_identifier bound capacity (r ∷ w)) ok in
    ap is_ok (root_ok bound capacity r w read.0 read.1).2

-- If an identifier is decoded, its first byte is below 120.
root_small : (bound capacity r : ℕ) (w : List ℕ) → is_ok (read_identifier bound capacity (r ∷ w)) ≡ true → r < 120
root_small bound capacity r w ok =
    let read = is_ok-ok (read_identifier bound capacity (r ∷ w)) ok in
    (root_ok bound capacity r w read.0 read.1).1

pub arcs_of-cons : (r : ℕ) (w : List ℕ) → arcs_of (r ∷ w) ≡ r / 40 ∷ r % 40 ∷ later_arcs 0 w
unfolding arcs_of
arcs_of-cons r w = refl

pub later_arcs-nil : (value : ℕ) (w : List ℕ) → w ≡ [] → later_arcs value w ≡ []
unfolding later_arcs
later_arcs-nil value [] e = refl
later_arcs-nil value (x ∷ w) e = cc

pub none_spelled : (w : List ℕ) → length w ≡ 0 → later_arcs 0 w ≡ arcs_of w
unfolding later_arcs arcs_of
none_spelled [] e = refl
none_spelled (x ∷ w) e = absurd (omega arith)

pub none_whole : (bound : ℕ) (w : List ℕ) → length w ≡ 0 → is_ok (read_arcs bound 0 w) ≡ true
none_whole bound [] e = ap is_ok (read_arcs-end bound)
none_whole bound (x ∷ w) e = absurd (omega arith)

-- Decoding the encoding of an identifier succeeds.
pub is_ok-octets : (bound : ℕ) (w arcs : List ℕ) → IsIdentifier bound arcs → w ≡ identifier_octets arcs → is_ok (read_identifier bound (length w) w) ≡ true
is_ok-octets bound w arcs id e =
    ap (λ t. is_ok (read_identifier bound (length t) t)) e
    ∙ ap is_ok (identifier_again bound (length (identifier_octets arcs)) arcs id (omega arith))

pub arcs_of-spelled : (bound : ℕ) (w arcs : List ℕ) → IsIdentifier bound arcs → w ≡ identifier_octets arcs → arcs_of w ≡ arcs
arcs_of-spelled bound w arcs id e = ap arcs_of e ∙ arcs_of-identifier_octets bound arcs id

-- The number of bytes with bit 8 clear, each of which ends an arc.
abbrev ends : List ℕ → ℕ
ends w = count_by (λ o. ltb o 128) w

ends-cons : (o : ℕ) (w : List ℕ) → ends (o ∷ w) ≡ cond (ltb o 128) 1 0 + ends w
ends-cons o w = sum_by-cons (λ x. cond (ltb x 128) 1 0) o w

length-later_arcs : (value : ℕ) (w : List ℕ) → length (later_arcs value w) ≡ ends w
length-later_arcs value [] = ap length (later_arcs-nil value [] refl)
length-later_arcs value (o ∷ w) =
    elim (cases_lt o 128) [
      | inl l ↦
          let e : ends (o ∷ w) ≡ 1 + ends w = ends-cons o w ∙ ap (λ b. cond b 1 0 + ends w) (lt-ltb o 128 l) in
          omega (arith, e, ap length (later_arcs-last value o w l), length-later_arcs 0 w)
      | inr l ↦
          let e : ends (o ∷ w) ≡ 0 + ends w = ends-cons o w ∙ ap (λ b. cond b 1 0 + ends w) (le-ltb o 128 l) in
          omega (arith, e, ap length (later_arcs-more value o w l), length-later_arcs (value * 128 + o % 128) w)
    ]

pub length-arcs_of : (bound : ℕ) (w : List ℕ) → is_ok (read_identifier bound (length w) w) ≡ true → count_by (λ o. ltb o 128) w + 1 ≡ length (arcs_of w)
length-arcs_of bound [] ok = cc
length-arcs_of bound (r ∷ w) ok =
    let small = root_small bound (length (r ∷ w)) r w ok in
    let one : ends (r ∷ w) ≡ 1 + ends w = ends-cons r w ∙ ap (λ b. cond b 1 0 + ends w) (lt-ltb r 128 (omega arith)) in
    omega (arith, one, ap length (arcs_of-cons r w), length-later_arcs 0 w)

-- The outcome of the first byte and of the arcs after it

pub outcome-with_arc : (a : ℕ) (r : Result (List ℕ) Error) → outcome (with_arc a r) ≡ outcome r
outcome-with_arc a (Ok arcs) = refl
outcome-with_arc a (Err e) = refl

pub outcome-root : (bound r : ℕ) (w : List ℕ) → r < 120 → outcome (read_identifier bound (length (r ∷ w)) (r ∷ w)) ≡ outcome (read_arcs bound 0 w)
outcome-root bound r w l = grind (arith, nat_tests, outcome-with_arc (r / 40) (with_arc (r % 40) (read_arcs bound 0 w)), outcome-with_arc (r % 40) (read_arcs bound 0 w))

pub outcome-root_invalid : (bound r : ℕ) (w : List ℕ) → 120 ≤ r → outcome (read_identifier bound (length (r ∷ w)) (r ∷ w)) ≡ Err (errors.ArcInvalid (r / 40))
outcome-root_invalid bound r w l = grind (arith, nat_tests)

pub outcome-empty : (bound capacity : ℕ) (w : List ℕ) → length w ≡ 0 → outcome (read_identifier bound capacity w) ≡ Err errors.Empty
outcome-empty bound capacity [] e = refl
outcome-empty bound capacity (x ∷ w) e = absurd (omega arith)

-- The arc at an index

pub none_left : (xs : List ℕ) (i index : ℕ) → drop i xs ≡ [] → i ≤ index → None ≡ slice_get xs index
none_left [] i index e l = refl
none_left (x ∷ xs) zero index e l = cc
none_left (x ∷ xs) (suc i) zero e l = absurd (omega arith)
none_left (x ∷ xs) (suc i) (suc index) e l = none_left xs i index e (omega arith)

pub next_left : (xs : List ℕ) (i x : ℕ) (rest : List ℕ) → drop i xs ≡ x ∷ rest → (Some x ≡ slice_get xs i) × (rest ≡ drop (i + 1) xs)
next_left (y ∷ xs) zero x rest e =
    let h : y ≡ x = cc in
    let t : xs ≡ rest = cc in
    (ap (λ n. Some n) (sym h), sym t)
next_left (y ∷ xs) (suc i) x rest e =
    let more = next_left xs i x rest e in
    let n : suc i + 1 ≡ suc (i + 1) = omega arith in
    (more.0, more.1 ∙ sym (ap (λ k. drop k (y ∷ xs)) n))
next_left [] zero x rest e = cc
next_left [] (suc i) x rest e = cc

pub at_next : (r : Option ℕ) (s t xs : List ℕ) (i index : ℕ) → MatchOption r ((s ≡ []) × (t ≡ [])) (λ x. s ≡ x ∷ t) → s ≡ drop i xs → i ≤ index → index ≤ i → r ≡ slice_get xs index
at_next None s t xs i index m e l k = none_left xs i index (sym e ∙ m.0) l
at_next (Some x) s t xs i index m e l k =
    let same : i ≡ index = omega arith in
    (next_left xs i x t (sym e ∙ m)).0 ∙ ap (slice_get xs) same

-- The bytes of an encoding are below 256.
later_below : (arcs : List ℕ) (i : ℕ) → get_or (flat_map arc_octets arcs) i 0 < 256
later_below arcs i = at (flat_map arc_octets arcs) i (arcs_below arcs)
  where
    at : (w : List ℕ) (i : ℕ) → AllByRecursion (λ o. o < 256) w → get_or w i 0 < 256
    at [] i all = omega arith
    at (x ∷ w) zero all = all.0
    at (x ∷ w) (suc i) all = at w i all.1

pub bytes_of_spelled : (bound : ℕ) (w : List ℕ) → is_ok (read_identifier bound (length w) w) ≡ true → w ≡ identifier_octets (arcs_of w) → (i : ℕ) → get_or w i 0 < 256
unfolding arcs_of identifier_octets
bytes_of_spelled bound [] ok e i = omega arith
bytes_of_spelled bound (r ∷ w) ok e zero = omega (arith, root_small bound (length (r ∷ w)) r w ok)
bytes_of_spelled bound (r ∷ w) ok e (suc i) =
    let rest : w ≡ flat_map arc_octets (later_arcs 0 w) = cc in
    subst (λ (t : List ℕ). get_or t i 0 < 256) (sym rest) (later_below (later_arcs 0 w) i)
