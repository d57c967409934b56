-- Lemmas about the last arc: its position in the encoding, and the number of bytes that have to be
-- read to find it.
use Rattle.std.proofs.Common.{◌≡◌, ℕ, suc, ◌+◌, ◌-◌, ◌*◌, ◌%◌, ◌<◌, ◌≤◌, ◌⊎◌, inl, inr, List, [], ◌∷◌, ◌++◌, length, get_or, take, map, Result, Ok, Err, sym, refl, ap, subst, ◌∙◌, append_assoc, length-append, length-take-le, mod-lt, arith}
use Rattle.std.specs.List.{AllByRecursion, flat_map}
use Rattle.std.specs.Result.{MatchResult}
use Rattle.std.proofs.Math.Seq.{take-append_seam}
use Rattle.std.proofs.lemmas.Bool.{lt-ltb, le-ltb}
use Rattle.std.proofs.lemmas.List.{length-map}
use Rattle.const_oid.specs.declared.error.Error.{Error}
use Rattle.const_oid.specs.declared.octets.Found.{Found}
use Rattle.const_oid.specs.Digits.{digits}
use Rattle.const_oid.specs.IdentifierOctets.{arc_octets, identifier_octets, IsIdentifier, with_arc, read_arcs, read_identifier}
use Rattle.const_oid.specs.Arcs.{later_arcs, arcs_of, SpellsIdentifier}
use Rattle.const_oid.specs.Outcome.{outcome}
use Rattle.const_oid.specs.LastArcs.{place_of_last, KnowsLast, last_from}
use Rattle.const_oid.proofs.ArcsLaws.{later_arcs-last, later_arcs-more, later_arcs-nil, arcs_of-cons, arcs_of-identifier_octets, read_identifier-ok, spells_from_read, spells_octets}
use Rattle.const_oid.proofs.DigitLaws.{fewer_digits}
use Rattle.const_oid.proofs.IdentifierLaws.{read_arcs-last}
use Rattle.const_oid.proofs.EncodingLaws.{length-arc_octets, length-digits-pos, identifier-many, some_octets}
use Rattle.const_oid.proofs.FamilyLaws.{front-push}
use Rattle.const_oid.specs.PackedOctets.{unmarked_front}
use Rattle.const_oid.proofs.ParentLaws.{unsnoc, Last, root, more, last_of, arc_parts}
use Rattle.const_oid.proofs.PackedLaws.{front-marks, front-none, front-identifier, front-within}

-- The position of the last arc

pub place-two : (arcs : List ℕ) → length arcs ≡ 2 → place_of_last arcs ≡ 0
unfolding place_of_last identifier_octets
place-two (a ∷ b ∷ []) two = refl
place-two _ two = absurd (omega arith)

pub place-push : (front : List ℕ) (a : ℕ) → place_of_last (front ++ (a ∷ [])) ≡ length (identifier_octets front)
unfolding place_of_last
place-push front a = ap (λ t. length (identifier_octets t)) (front-push front a)

-- If the last byte is left out, the bytes up to the last one with bit 8 clear are those before the
-- last arc.
pub before_last : (bound : ℕ) (arcs w : List ℕ) → IsIdentifier bound arcs → w ≡ identifier_octets arcs → length (unmarked_front (take (length w - 1) w)) ≡ place_of_last arcs
before_last bound arcs w id e = by (last_of bound arcs id)
  where
    by : Last bound arcs → length (unmarked_front (take (length w - 1) w)) ≡ place_of_last arcs
    by (root r small octets two) = ap (λ (t : List ℕ). length (unmarked_front (take (length t - 1) t))) (e ∙ octets) ∙ ap length front-none ∙ sym (place-two arcs two)
    by (more front a fid whole octets n) =
        let parts = arc_parts a in
        let f = identifier_octets front in
        let marks = map (λ d. 128 + d) parts.front in
        ap (λ (t : List ℕ). length (unmarked_front (take (length t - 1) t))) (e ∙ octets ∙ ap (λ t. f ++ t) parts.whole ∙ sym (append_assoc f marks (parts.last ∷ [])))
        ∙ ap (λ t. length (unmarked_front t)) (front-push (f ++ marks) parts.last)
        ∙ ap length (front-marks f parts.front ∙ front-identifier bound front fid)
        ∙ sym (ap place_of_last whole ∙ place-push front a)

-- One pass from the first byte to the last

last_from-ends : (last begun here o : ℕ) (w : List ℕ) → o < 128 → last_from last begun here (o ∷ w) ≡ last_from begun (here + 1) (here + 1) w
unfolding last_from
last_from-ends last begun here o w l = rw (lt-ltb o 128 l, last_from) refl

last_from-goes : (last begun here o : ℕ) (w : List ℕ) → 128 ≤ o → last_from last begun here (o ∷ w) ≡ last_from last begun (here + 1) w
unfolding last_from
last_from-goes last begun here o w l = rw (le-ltb o 128 l, last_from) refl

pub last_from-end : (last begun here : ℕ) (w : List ℕ) → w ≡ [] → last_from last begun here w ≡ last
unfolding last_from
last_from-end last begun here [] e = refl
last_from-end last begun here (o ∷ w) e = cc

-- Two later arcs of one byte each.
two_read : (bound a b : ℕ) → 128 ≤ bound → a < 128 → b < 128 → outcome (read_arcs bound 0 (a ∷ b ∷ [])) ≡ Ok tt
two_read bound a b large first second =
    let a_below : a % 128 < 128 = mod-lt a (omega arith) in
    let b_below : b % 128 < 128 = mod-lt b (omega arith) in
    ap outcome (read_arcs-last bound 0 a (b ∷ []) (λ h. omega (arith, h.1)) (omega (arith, a_below)) first)
    ∙ ap (λ r. outcome (with_arc (0 * 128 + a % 128) r)) (read_arcs-last bound 0 b [] (λ h. omega (arith, h.1)) (omega (arith, b_below)) second)

two_later : (a b : ℕ) → a < 128 → b < 128 → length (later_arcs 0 (a ∷ b ∷ [])) ≡ 2
two_later a b first second =
    ap length (later_arcs-last 0 a (b ∷ []) first)
    ∙ ap (λ t. suc (length t)) (later_arcs-last 0 b [] second)
    ∙ ap (λ t. suc (suc (length t))) (later_arcs-nil 0 [] refl)

pub two_found : (bound : ℕ) (w : List ℕ) → 128 ≤ bound → length w ≡ 2 → get_or w 0 0 < 128 → get_or w 1 0 < 128
    → (outcome (read_arcs bound 0 w) ≡ Ok tt) × (4 ≡ 2 + length (later_arcs 0 w)) × (2 ≡ last_from 0 1 1 w)
two_found bound (a ∷ b ∷ []) large two first second = (
  two_read bound a b large first second,
  omega (arith, two_later a b first second),
  sym (last_from-ends 0 1 1 a (b ∷ []) first ∙ last_from-ends 1 2 2 b [] second ∙ last_from-end 2 3 3 [] refl),
)
two_found bound _ large two first second = absurd (omega arith)

-- Bytes with bit 8 set.
last_from-marked : (last begun here : ℕ) (ds w : List ℕ) → last_from last begun here (map (λ d. 128 + d) ds ++ w) ≡ last_from last begun (here + length ds) w
last_from-marked last begun here [] w = ap (λ n. last_from last begun n w) (let e : here ≡ here + 0 = omega arith in e)
last_from-marked last begun here (d ∷ ds) w =
    let e : here + 1 + length ds ≡ here + suc (length ds) = omega arith in
    last_from-goes last begun here (128 + d) (map (λ d. 128 + d) ds ++ w) (omega arith)
    ∙ last_from-marked last begun (here + 1) ds w
    ∙ ap (λ n. last_from last begun n w) e

-- The bytes of one arc.
last_from-arc : (last begun here a : ℕ) (w : List ℕ) → last_from last begun here (arc_octets a ++ w) ≡ last_from begun (here + length (arc_octets a)) (here + length (arc_octets a)) w
last_from-arc last begun here a w =
    let parts = arc_parts a in
    let marks = map (λ d. 128 + d) parts.front in
    let n : here + length parts.front + 1 ≡ here + length (arc_octets a) =
    omega (arith, ap length parts.whole, length-append marks (parts.last ∷ []), length-map parts.front (λ d. 128 + d)) in
    ap (λ t. last_from last begun here (t ++ w)) parts.whole
    ∙ ap (last_from last begun here) (append_assoc marks (parts.last ∷ []) w)
    ∙ last_from-marked last begun here parts.front (parts.last ∷ w)
    ∙ last_from-ends last begun (here + length parts.front) parts.last w parts.unmarked
    ∙ ap (λ k. last_from begun k k w) n

-- The bytes of some arcs and of a last one.
last_from-arcs : (last here : ℕ) (front : List ℕ) (a : ℕ) → last_from last here here (flat_map arc_octets (front ++ (a ∷ []))) ≡ here + length (flat_map arc_octets front)
last_from-arcs last here [] a =
    let n : here ≡ here + 0 = omega arith in
    last_from-arc last here here a []
    ∙ last_from-end here (here + length (arc_octets a)) (here + length (arc_octets a)) [] refl
    ∙ n
last_from-arcs last here (x ∷ front) a =
    let n : here + length (arc_octets x) + length (flat_map arc_octets front) ≡ here + length (flat_map arc_octets (x ∷ front)) =
    omega (arith, length-append (arc_octets x) (flat_map arc_octets front)) in
    last_from-arc last here here x (flat_map arc_octets (front ++ (a ∷ [])))
    ∙ last_from-arcs here (here + length (arc_octets x)) front a
    ∙ n

-- The pass over the bytes after the first one finds the last arc.
pub last_found : (bound r : ℕ) (w arcs : List ℕ) → IsIdentifier bound arcs → r ∷ w ≡ identifier_octets arcs → last_from 0 1 1 w ≡ place_of_last arcs
unfolding IsIdentifier identifier_octets
last_found bound r w (a ∷ b ∷ later) id e = by (unsnoc later)
  where
    rest : w ≡ flat_map arc_octets later
    rest = cc

    by : (later ≡ []) ⊎ ((front : List ℕ) × (last : ℕ) × (later ≡ front ++ (last ∷ []))) → last_from 0 1 1 w ≡ place_of_last (a ∷ b ∷ later)
    by (inl e) =
        last_from-end 0 1 1 w (rest ∙ ap (flat_map arc_octets) e)
        ∙ sym (place-two (a ∷ b ∷ later) (ap (λ (t : List ℕ). length (a ∷ b ∷ t)) e))
    by (inr p) =
        let n : 1 + length (flat_map arc_octets p.0) ≡ length (identifier_octets (a ∷ b ∷ p.0)) = omega arith in
        ap (last_from 0 1 1) (rest ∙ ap (flat_map arc_octets) p.2)
        ∙ last_from-arcs 0 1 p.0 p.1
        ∙ n
        ∙ sym (ap (λ t. place_of_last (a ∷ b ∷ t)) p.2 ∙ place-push (a ∷ b ∷ p.0) p.1)
last_found bound r w _ id e = absurd id

-- Bytes with bit 8 set don't change the number of later arcs.
later_arcs-marked : (value : ℕ) (ds w : List ℕ) → (v : ℕ) × (later_arcs value (map (λ d. 128 + d) ds ++ w) ≡ later_arcs v w)
later_arcs-marked value [] w = (value, refl)
later_arcs-marked value (d ∷ ds) w =
    let rest = later_arcs-marked (value * 128 + (128 + d) % 128) ds w in
    (rest.0, later_arcs-more value (128 + d) (map (λ d. 128 + d) ds ++ w) (omega arith) ∙ rest.1)

later_arcs-arc : (a : ℕ) (w : List ℕ) → length (later_arcs 0 (arc_octets a ++ w)) ≡ suc (length (later_arcs 0 w))
later_arcs-arc a w =
    let parts = arc_parts a in
    let before = later_arcs-marked 0 parts.front (parts.last ∷ w) in
    ap (λ t. length (later_arcs 0 (t ++ w))) parts.whole
    ∙ ap (λ t. length (later_arcs 0 t)) (append_assoc (map (λ d. 128 + d) parts.front) (parts.last ∷ []) w)
    ∙ ap length (before.1 ∙ later_arcs-last before.0 parts.last w parts.unmarked)

-- The number of arcs and the position of the last one are known up to the position `here`.
pub record SoFar (whole rest : List ℕ) (count last here : ℕ) : Type 0 where
  pub counted : count + length (later_arcs 0 rest) ≡ 2 + length (later_arcs 0 whole)
  pub placed : last_from last here here rest ≡ last_from 0 1 1 whole

-- The number of arcs and the position of the last one are known after one more arc, too.
pub so_far_arc : (whole w rest : List ℕ) (count last here a : ℕ) → SoFar whole w count last here → w ≡ arc_octets a ++ rest
    → SoFar whole rest (count + 1) here (here + length (arc_octets a))
so_far_arc whole w rest count last here a s e = record {
  counted = omega (arith, s.counted, ap (λ t. length (later_arcs 0 t)) e, later_arcs-arc a rest);
  placed = sym (ap (last_from last here here) e ∙ last_from-arc last here here a rest) ∙ s.placed;
}

pub so_far_all : (whole rest : List ℕ) (count last here : ℕ) → SoFar whole rest count last here → rest ≡ []
    → (count ≡ 2 + length (later_arcs 0 whole)) × (last ≡ last_from 0 1 1 whole)
so_far_all whole rest count last here s e = (
  omega (arith, s.counted, ap (λ t. length (later_arcs 0 t)) e, ap length (later_arcs-nil 0 [] refl)),
  sym (last_from-end last here here rest e) ∙ s.placed,
)

-- The result for the whole encoding, from the result for the bytes after the first one.
pub found_whole : (bound r : ℕ) (rest w : List ℕ) (result : Result Found Error) → w ≡ r ∷ rest → ((i : ℕ) → get_or w i 0 < 256)
    → outcome (read_identifier bound (length w) w) ≡ outcome (read_arcs bound 0 rest)
    → MatchResult result
    (λ found. (outcome (read_arcs bound 0 rest) ≡ Ok tt) × (found.arc_count ≡ 2 + length (later_arcs 0 rest)) × (found.last_start ≡ last_from 0 1 1 rest))
    (λ e. outcome (read_arcs bound 0 rest) ≡ Err e)
    → MatchResult result
    (λ found. (outcome (read_identifier bound (length w) w) ≡ Ok tt) × KnowsLast (arcs_of w) found.arc_count found.last_start)
    (λ e. outcome (read_identifier bound (length w) w) ≡ Err e)
found_whole bound r rest w (Ok found) e bytes read m =
    let ok = read ∙ m.0 in
    let s = spells_from_read bound (length w) w bytes (read_identifier-ok bound w ok) in
    let arcs = ap arcs_of e ∙ arcs_of-cons r rest in (
      ok,
      record {
        counted = omega (arith, m.1, ap length arcs);
        placed = m.2 ∙ last_found bound r rest (arcs_of w) s.identifier (sym e ∙ s.spelled);
      },
    )
found_whole bound r rest w (Err x) e bytes read m = read ∙ m

-- The arcs before the last one

-- The position of the last arc is within the encoding.
pub placed_within : (bound : ℕ) (arcs : List ℕ) → IsIdentifier bound arcs → place_of_last arcs < length (identifier_octets arcs)
placed_within bound arcs id = by (last_of bound arcs id)
  where
    by : Last bound arcs → place_of_last arcs < length (identifier_octets arcs)
    by (root r small octets two) = omega (arith, place-two arcs two, ap length octets)
    by (more front a fid whole octets n) =
        omega (arith, ap place_of_last whole, place-push front a, ap length octets, length-append (identifier_octets front) (arc_octets a), length-arc_octets a, length-digits-pos a)

-- If the last arc is at position 0, there are two arcs.
pub none_before : (bound capacity count start : ℕ) (w : List ℕ) → SpellsIdentifier bound capacity w → KnowsLast (arcs_of w) count start → start ≡ 0 → length (arcs_of w) ≡ 2
none_before bound capacity count start w s k e = by (last_of bound (arcs_of w) s.identifier)
  where
    by : Last bound (arcs_of w) → length (arcs_of w) ≡ 2
    by (root r small octets two) = two
    by (more front a fid whole octets n) = absurd (omega (arith, k.placed, ap place_of_last whole, place-push front a, some_octets bound front fid))

-- `octets` are the bytes before the last arc of an identifier.
pub record Front (bound capacity : ℕ) (w octets : List ℕ) : Type 0 where
  pub spells : SpellsIdentifier bound capacity octets
  pub whole : SpellsIdentifier bound (length octets) octets
  pub last : ℕ
  pub arcs : arcs_of w ≡ arcs_of octets ++ (last ∷ [])
  pub many : 2 ≤ length (arcs_of octets)

pub front_of : (bound capacity count start : ℕ) (w octets : List ℕ) → SpellsIdentifier bound capacity w → KnowsLast (arcs_of w) count start → (start ≡ 0 → ⊥)
    → octets ≡ take start w → Front bound capacity w octets
front_of bound capacity count start w octets s k ne e = by (last_of bound (arcs_of w) s.identifier)
  where
    by : Last bound (arcs_of w) → Front bound capacity w octets
    by (root r small one two) = absurd (ne (k.placed ∙ place-two (arcs_of w) two))
    by (more front last fid whole split n) =
        let at : start ≡ length (identifier_octets front) = k.placed ∙ ap place_of_last whole ∙ place-push front last in
        let t : take start w ≡ identifier_octets front =
        ap (take start) (s.spelled ∙ split) ∙ ap (λ k. take k (identifier_octets front ++ arc_octets last)) at ∙ take-append_seam (identifier_octets front) (arc_octets last) in
        let same : octets ≡ identifier_octets front = e ∙ t in
        let back : arcs_of octets ≡ front = ap arcs_of same ∙ arcs_of-identifier_octets bound front fid in
        let within = placed_within bound (arcs_of w) s.identifier in
        let fits : length (identifier_octets front) ≤ capacity = omega (arith, ap length t, length-take-le start w (omega (arith, k.placed, ap length s.spelled)), k.placed, ap length s.spelled, s.fits) in
        record {
          spells = subst (SpellsIdentifier bound capacity) (sym same) (spells_octets bound capacity front fid fits);
          whole = subst (λ (v : List ℕ). SpellsIdentifier bound (length v) v) (sym same) (spells_octets bound (length (identifier_octets front)) front fid (omega arith));
          last = last;
          arcs = whole ∙ ap (λ v. v ++ (last ∷ [])) (sym back);
          many = omega (arith, ap length back, identifier-many bound front fid);
        }

-- The number of arcs and the position of the last one after an arc is pushed.
pub knows_push : (bound capacity count start a : ℕ) (w new : List ℕ) → SpellsIdentifier bound capacity w → count ≡ length (arcs_of w)
    → arcs_of new ≡ arcs_of w ++ (a ∷ []) → start ≡ length w → KnowsLast (arcs_of new) (count + 1) start
knows_push bound capacity count start a w new s counted pushed at = record {
  counted = omega (arith, ap length pushed, length-append (arcs_of w) (a ∷ []));
  placed = at ∙ ap length s.spelled ∙ sym (ap place_of_last pushed ∙ place-push (arcs_of w) a);
}

-- The number of bytes that are read

-- The last arc is below the bound.
last_below : (bound : ℕ) (front : List ℕ) (a : ℕ) → IsIdentifier bound front → IsIdentifier bound (front ++ (a ∷ [])) → a < bound
unfolding IsIdentifier
last_below bound (x ∷ y ∷ front) a fid id = at front id.2
  where
    at : (front : List ℕ) → AllByRecursion (λ n. n < bound) (front ++ (a ∷ [])) → a < bound
    at [] all = all.0
    at (z ∷ front) all = at front all.1
last_below bound _ a fid id = absurd fid

-- The last arc has no more bytes than the largest possible one.
few_behind : (bound : ℕ) (arcs : List ℕ) → IsIdentifier bound arcs → length (identifier_octets arcs) ≤ place_of_last arcs + length (digits 128 (bound - 1))
few_behind bound arcs id = by (last_of bound arcs id)
  where
    by : Last bound arcs → length (identifier_octets arcs) ≤ place_of_last arcs + length (digits 128 (bound - 1))
    by (root r small octets two) = omega (arith, ap length octets, length-digits-pos (bound - 1))
    by (more front a fid whole octets n) =
        let below : a < bound = last_below bound front a fid (subst (IsIdentifier bound) whole id) in
        omega (arith, ap place_of_last whole, place-push front a, ap length octets, length-append (identifier_octets front) (arc_octets a), length-arc_octets a, fewer_digits 128 a (bound - 1) (omega arith) (omega arith))

pub few_tested : (bound start : ℕ) (arcs w : List ℕ) → IsIdentifier bound arcs → w ≡ identifier_octets arcs → start < length w
    → unmarked_front (take start w) ≡ unmarked_front (take (length w - 1) w) → length w ≤ start + length (digits 128 (bound - 1))
few_tested bound start arcs w id e l held =
    omega (arith, ap length e, few_behind bound arcs id, before_last bound arcs w id e, ap length held, front-within (take start w), length-take-le start w (omega arith))

-- There are at most as many arcs as bytes, plus one.
pub few_arcs : (bound : ℕ) (arcs : List ℕ) → IsIdentifier bound arcs → length arcs ≤ length (identifier_octets arcs) + 1
unfolding IsIdentifier identifier_octets
few_arcs bound (a ∷ b ∷ later) id = omega (arith, each later)
  where
    each : (arcs : List ℕ) → length arcs ≤ length (flat_map arc_octets arcs)
    each [] = omega arith
    each (x ∷ arcs) = omega (arith, each arcs, length-append (arc_octets x) (flat_map arc_octets arcs), length-arc_octets x, length-digits-pos x)
few_arcs bound _ id = absurd id
