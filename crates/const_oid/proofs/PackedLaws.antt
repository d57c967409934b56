-- Lemmas about bytes that are held in an array filled up with the byte 0x80.
use Rattle.std.proofs.Common.{◌≡◌, ℕ, zero, suc, ◌+◌, ◌-◌, ◌<◌, ◌≤◌, List, [], ◌∷◌, ◌++◌, length, get_or, take, drop, replicate, set, map, ◌⊎◌, inl, inr, length-take-le, sym, refl, ap, ◌∙◌, arith, append_assoc, length-append, min}
use Rattle.std.proofs.lemmas.Bool.{lt-ltb, le-ltb, cases_lt}
use Rattle.std.proofs.lemmas.Bool.Decides.{nat_tests}
use Rattle.std.proofs.lemmas.List.{drop-replicate, take_more, take-take}
use Rattle.std.proofs.Math.Seq.{take-append_seam, drop-append-add}
use Rattle.const_oid.specs.Arcs.{SpellsIdentifier, arcs_of}
use Rattle.const_oid.specs.IdentifierOctets.{identifier_octets, IsIdentifier, arc_octets}
use Rattle.const_oid.specs.PackedOctets.{octet_in_front, unmarked_front, IsPacked}
use Rattle.const_oid.proofs.ParentLaws.{Last, root, more, last_of, arc_parts}

-- Appending a byte with bit 8 clear.
pub front-low : (w : List ℕ) (o : ℕ) → o < 128 → unmarked_front (w ++ (o ∷ [])) ≡ w ++ (o ∷ [])
unfolding unmarked_front
front-low [] o l = rw (lt-ltb o 128 l, octet_in_front) refl
front-low (x ∷ []) o l = ap (octet_in_front x) (front-low [] o l)
front-low (x ∷ y ∷ w) o l = ap (octet_in_front x) (front-low (y ∷ w) o l)

-- Appending a byte with bit 8 set.
pub front-marked : (w : List ℕ) (o : ℕ) → 128 ≤ o → unmarked_front (w ++ (o ∷ [])) ≡ unmarked_front w
unfolding unmarked_front
front-marked [] o l = rw (le-ltb o 128 l, octet_in_front) refl
front-marked (x ∷ w) o l = ap (octet_in_front x) (front-marked w o l)

-- Appending several bytes with bit 8 set.
pub front-marks : (w ds : List ℕ) → unmarked_front (w ++ map (λ d. 128 + d) ds) ≡ unmarked_front w
unfolding unmarked_front
front-marks [] [] = refl
front-marks [] (d ∷ ds) = ap (octet_in_front (128 + d)) (front-marks [] ds) ∙ rw (le-ltb (128 + d) 128 (omega arith), octet_in_front) refl
front-marks (x ∷ w) ds = ap (octet_in_front x) (front-marks w ds)

front-padded : (w : List ℕ) (k : ℕ) → unmarked_front (w ++ replicate k 128) ≡ unmarked_front w
front-padded w k = ap (λ t. unmarked_front (w ++ t)) (marks k) ∙ front-marks w (replicate k 0)
  where
    marks : (k : ℕ) → replicate k 128 ≡ map (λ d. 128 + d) (replicate k 0)
    marks zero = refl
    marks (suc k) = ap (λ t. 128 ∷ t) (marks k)

pub front-none : unmarked_front [] ≡ []
unfolding unmarked_front
front-none = refl

-- Appending the encoding of an arc, and the encoding of an identifier.
front-arc : (w : List ℕ) (a : ℕ) → unmarked_front (w ++ arc_octets a) ≡ w ++ arc_octets a
front-arc w a =
    let parts = arc_parts a in
    let marks = map (λ d. 128 + d) parts.front in
    let split : w ++ arc_octets a ≡ (w ++ marks) ++ (parts.last ∷ []) = ap (λ t. w ++ t) parts.whole ∙ sym (append_assoc w marks (parts.last ∷ [])) in
    ap unmarked_front split ∙ front-low (w ++ marks) parts.last parts.unmarked ∙ sym split

pub front-identifier : (bound : ℕ) (arcs : List ℕ) → IsIdentifier bound arcs → unmarked_front (identifier_octets arcs) ≡ identifier_octets arcs
front-identifier bound arcs id = by (last_of bound arcs id)
  where
    by : Last bound arcs → unmarked_front (identifier_octets arcs) ≡ identifier_octets arcs
    by (root r small e two) = ap unmarked_front e ∙ front-low [] r small ∙ sym e
    by (more front a fid whole e n) = ap unmarked_front e ∙ front-arc (identifier_octets front) a ∙ sym e

pub front-spelled : (bound capacity : ℕ) (w : List ℕ) → SpellsIdentifier bound capacity w → unmarked_front w ≡ w
front-spelled bound capacity w s = ap unmarked_front s.spelled ∙ front-identifier bound (arcs_of w) s.identifier ∙ sym s.spelled

-- Searching from the end for a byte with bit 8 clear

take_before : (bytes : List ℕ) (end : ℕ) → 0 < end → end ≤ length bytes → take end bytes ≡ take (end - 1) bytes ++ (get_or bytes (end - 1) 0 ∷ [])
take_before bytes end some within =
    let on : (end - 1) + 1 ≡ end = omega arith in
    ap (λ n. take n bytes) (sym on) ∙ take_more bytes (end - 1) 0 (omega arith)

pub front-step : (bytes : List ℕ) (end : ℕ) → 0 < end → end ≤ length bytes → 128 ≤ get_or bytes (end - 1) 0
    → unmarked_front (take (end - 1) bytes) ≡ unmarked_front (take end bytes)
front-step bytes end some within marked =
    sym (ap unmarked_front (take_before bytes end some within) ∙ front-marked (take (end - 1) bytes) (get_or bytes (end - 1) 0) marked)

-- The search stops after a byte with bit 8 clear, or at the beginning.
pub front-found : (bytes rest : List ℕ) (end : ℕ) → end ≤ length bytes → (0 < end → get_or bytes (end - 1) 0 < 128) → unmarked_front (take end bytes) ≡ rest → end ≡ length rest
front-found bytes rest end within low held = by (cases_lt 0 end)
  where
    by : (0 < end) ⊎ (end ≤ 0) → end ≡ length rest
    by (inl some) =
        let split = take_before bytes end some within in
        sym (length-take-le end bytes within) ∙ ap length (split ∙ sym (front-low (take (end - 1) bytes) (get_or bytes (end - 1) 0) (low some)) ∙ sym (ap unmarked_front split) ∙ held)
    by (inr l) =
        let none : end ≡ 0 = omega arith in
        none ∙ ap length (sym front-none ∙ ap (λ n. unmarked_front (take n bytes)) (sym none) ∙ held)

pub front-within : (w : List ℕ) → length (unmarked_front w) ≤ length w
unfolding unmarked_front
front-within [] = omega arith
front-within (o ∷ w) = by (unmarked_front w) (front-within w)
  where
    by : (v : List ℕ) → length v ≤ length w → length (octet_in_front o v) ≤ suc (length w)
    by [] l = grind (arith, nat_tests)
    by (x ∷ v) l = omega arith

-- Copying bytes to the beginning of the array

copied : (size : ℕ) (octets : List ℕ) → octets ++ drop (length octets) (replicate size 128) ≡ octets ++ replicate (size - length octets) 128
copied size octets = ap (λ t. octets ++ t) (drop-replicate (length octets) size 128)

pub front-copied : (size : ℕ) (octets : List ℕ) → unmarked_front octets ≡ octets
    → unmarked_front (octets ++ drop (length octets) (replicate size 128)) ≡ octets
front-copied size octets whole = ap unmarked_front (copied size octets) ∙ front-padded octets (size - length octets) ∙ whole

pub packed_copy : (size count : ℕ) (octets : List ℕ) → length octets ≤ size → unmarked_front octets ≡ octets → count ≡ min 255 (length octets)
    → IsPacked size (octets ++ drop (length octets) (replicate size 128)) count
packed_copy size count octets fits whole counted =
    let front = front-copied size octets whole in
    record {
      fits = omega (arith, ap length front);
      padded = copied size octets ∙ ap (λ t. t ++ replicate (size - length t) 128) (sym front);
      counted = counted ∙ ap (λ t. min 255 (length t)) (sym front);
    }

-- Three bytes that are written separately.
pub three_copied : (size : ℕ) (octets : List ℕ) → 3 ≤ length octets → length octets < 4 → length octets ≤ size
    → set (set (set (replicate size 128) 0 (get_or octets 0 0)) 1 (get_or octets 1 0)) 2 (get_or octets 2 0) ≡ octets ++ drop (length octets) (replicate size 128)
three_copied (suc (suc (suc n))) (a ∷ b ∷ c ∷ []) three most fits = refl
three_copied size octets three most fits = absurd (omega arith)

-- The bytes that an array contains

pub packed_take : (size count : ℕ) (bytes : List ℕ) → IsPacked size bytes count → take (length (unmarked_front bytes)) bytes ≡ unmarked_front bytes
packed_take size count bytes p =
    let w = unmarked_front bytes in
    ap (take (length w)) p.padded ∙ take-append_seam w (replicate (size - length w) 128)

-- Two lists are equal if they have the same length and the beginnings of their arrays agree.
pub same_front : (size k c d : ℕ) (a b : List ℕ) → IsPacked size a c → IsPacked size b d → c ≡ d → c ≤ k → k < 255 → take k a ≡ take k b
    → unmarked_front a ≡ unmarked_front b
same_front size k c d a b p q e within small fronts =
    let mine : length (unmarked_front a) ≡ c = omega (arith, p.counted) in
    let others : length (unmarked_front b) ≡ c = omega (arith, q.counted) in
    sym (packed_take size c a p) ∙ ap (λ n. take n a) mine ∙ sym (take-take c k a within) ∙ ap (take c) fronts
    ∙ take-take c k b within ∙ ap (λ n. take n b) (sym others) ∙ packed_take size d b q

-- Writing the encoding of an arc after them.
pub packed_push : (size count end counts arc : ℕ) (bytes new : List ℕ) → IsPacked size bytes count
    → end ≡ length (unmarked_front bytes) + length (arc_octets arc) → end ≤ size → counts ≡ min 255 end
    → new ≡ take (end - length (arc_octets arc)) bytes ++ (arc_octets arc ++ drop end bytes)
    → IsPacked size new counts × (unmarked_front new ≡ unmarked_front bytes ++ arc_octets arc)
packed_push size count end counts arc bytes new p at within counted written =
    let w = unmarked_front bytes in
    let a = arc_octets arc in
    let start : end - length a ≡ length w = omega arith in
    let front : take (end - length a) bytes ≡ w = ap (λ n. take n bytes) start ∙ packed_take size count bytes p in
    let rest : drop end bytes ≡ replicate (size - end) 128 =
    ap (drop end) p.padded ∙ ap (λ n. drop n (w ++ replicate (size - length w) 128)) at ∙ drop-append-add w (replicate (size - length w) 128) (length a)
    ∙ drop-replicate (length a) (size - length w) 128 ∙ ap (λ n. replicate {A = ℕ} n 128) (omega arith) in
    let whole : new ≡ (w ++ a) ++ replicate (size - end) 128 =
    written ∙ ap (λ t. t ++ (a ++ drop end bytes)) front ∙ ap (λ t. w ++ (a ++ t)) rest ∙ sym (append_assoc w a (replicate (size - end) 128)) in
    let held : unmarked_front new ≡ w ++ a = ap unmarked_front whole ∙ front-padded (w ++ a) (size - end) ∙ front-arc w arc in
    let long : length (w ++ a) ≡ end = length-append w a ∙ sym at in (
      record {
        fits = omega (arith, ap length held, long);
        padded = whole ∙ ap (λ n. (w ++ a) ++ replicate (size - n) 128) (sym long) ∙ ap (λ t. t ++ replicate (size - length t) 128) (sym held);
        counted = counted ∙ ap (min 255) (sym (ap length held ∙ long));
      },
      held,
    )
