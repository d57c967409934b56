-- Lemmas about the encoding of arcs, and about an identifier or an encoder to which one more arc is
-- added.
use Rattle.std.proofs.Common.{◌≡◌, ℕ, ◌+◌, ◌*◌, ◌/◌, ◌%◌, ◌<◌, ◌≤◌, true, false, ltb, List, [], ◌∷◌, ◌++◌, length, map, Result, Ok, Err, Option, None, Some, MatchResult, sym, refl, ap, subst, ◌∙◌, append_assoc, length-append, take, drop, ◌-◌, arith}
use Rattle.std.proofs.Math.ListN.{set}
use Rattle.std.proofs.lemmas.List.{take-set-le, drop-set}
use Rattle.std.proofs.lemmas.Bool.{lt-ltb, le-ltb}
use Rattle.std.proofs.lemmas.Bool.Decides.{nat_tests}
use Rattle.const_oid.specs.declared.error.Error.{Error}
use Rattle.const_oid.specs.declared.error.Error.TheVariants as errors
use Rattle.const_oid.specs.Digits.{digits, marked}
use Rattle.const_oid.specs.IdentifierOctets.{arc_octets, identifier_octets, IsIdentifier, read_identifier}
use Rattle.const_oid.specs.Family.{child_of}
use Rattle.std.specs.Option.{ok_or}
use Rattle.const_oid.specs.Arcs.{arcs_of, SpellsIdentifier}
use Rattle.const_oid.specs.ArcLists.{is_misplaced, gather, and_then, add_arc, whole_arcs, arcs_so_far, IsSoFar}
use Rattle.const_oid.proofs.DigitLaws.{digits-Digits, digits-one, digits-more, marked-push, length-marked}
use Rattle.const_oid.proofs.IdentifierLaws.{identifier_octets-push, IsIdentifier-push}
use Rattle.const_oid.proofs.ArcsLaws.{spells_octets, arcs_of-identifier_octets}

-- The length of an arc's encoding

pub length-digits-pos : (n : ℕ) → 0 < length (digits 128 n)
length-digits-pos n = (digits-Digits 128 n (omega arith)).some

pub length-arc_octets : (n : ℕ) → length (arc_octets n) ≡ length (digits 128 n)
unfolding arc_octets
length-arc_octets n = length-marked (digits 128 n)

-- The bytes of an arc's encoding

pub arc_octets-one : (n : ℕ) → n < 128 → arc_octets n ≡ n ∷ []
unfolding arc_octets marked
arc_octets-one n l = ap marked (digits-one 128 n l)

pub arc_octets-more : (n : ℕ) → 128 ≤ n → arc_octets n ≡ map (λ d. 128 + d) (digits 128 (n / 128)) ++ (n % 128 ∷ [])
unfolding arc_octets
arc_octets-more n l = ap marked (digits-more 128 n (omega arith) l) ∙ marked-push (digits 128 (n / 128)) (n % 128)

-- Writing from the last byte to the first

-- Writing one byte before those that are already written.
pub written_front : (bytes : List ℕ) (last o k : ℕ) (front : List ℕ) → last < length bytes → k ≤ last
    → take k (set bytes last o) ++ (front ++ drop last (set bytes last o)) ≡ take k bytes ++ ((front ++ (o ∷ [])) ++ drop (last + 1) bytes)
written_front bytes last o k front l m =
    ap (λ t. t ++ (front ++ drop last (set bytes last o))) (take-set-le k bytes last o m)
    ∙ ap (λ t. take k bytes ++ t) (ap (λ t. front ++ t) (drop-set bytes last o l) ∙ sym (append_assoc front (o ∷ []) (drop (last + 1) bytes)))

-- Writing the last byte, and then the bytes before it.
pub write_more : (bytes new octets front : List ℕ) (end o m n : ℕ) → octets ≡ front ++ (o ∷ []) → n ≡ m + 1 → n ≤ end → end ≤ length bytes
    → new ≡ take (end - 1 - m) (set bytes (end - 1) o) ++ (front ++ drop (end - 1) (set bytes (end - 1) o))
    → new ≡ take (end - n) bytes ++ (octets ++ drop end bytes)
write_more bytes new octets front end o m n e count some fits written =
    let last : end - 1 + 1 ≡ end = omega arith in
    let start : end - 1 - m ≡ end - n = omega arith in
    written
    ∙ written_front bytes (end - 1) o (end - 1 - m) front (omega arith) (omega arith)
    ∙ ap (λ k. take k bytes ++ ((front ++ (o ∷ [])) ++ drop (end - 1 + 1) bytes)) start
    ∙ ap (λ k. take (end - n) bytes ++ ((front ++ (o ∷ [])) ++ drop k bytes)) last
    ∙ ap (λ t. take (end - n) bytes ++ (t ++ drop end bytes)) (sym e)

-- An encoding with one more arc

pub spells_push : (bound capacity : ℕ) (w : List ℕ) (a : ℕ) → SpellsIdentifier bound capacity w → a < bound → length w + length (arc_octets a) ≤ capacity
    → SpellsIdentifier bound capacity (w ++ arc_octets a) × (arcs_of (w ++ arc_octets a) ≡ arcs_of w ++ (a ∷ []))
spells_push bound capacity w a s l fits =
    let id = IsIdentifier-push bound (arcs_of w) a s.identifier l in
    let octets : identifier_octets (arcs_of w ++ (a ∷ [])) ≡ w ++ arc_octets a =
    identifier_octets-push bound (arcs_of w) a s.identifier ∙ ap (λ t. t ++ arc_octets a) (sym s.spelled) in
    let small : length (identifier_octets (arcs_of w ++ (a ∷ []))) ≤ capacity = omega (arith, ap length octets, length-append w (arc_octets a)) in (
      subst (SpellsIdentifier bound capacity) octets (spells_octets bound capacity (arcs_of w ++ (a ∷ [])) id small),
      ap arcs_of (sym octets) ∙ arcs_of-identifier_octets bound (arcs_of w ++ (a ∷ [])) id,
    )

-- The result of adding an arc

pub add_arc-misplaced : (capacity : ℕ) (arcs : List ℕ) (a : ℕ) → is_misplaced arcs a ≡ true → add_arc capacity arcs a ≡ Err (errors.ArcInvalid a)
unfolding add_arc
add_arc-misplaced capacity arcs a e = rw (e, add_arc) refl

pub add_arc-long : (capacity : ℕ) (arcs : List ℕ) (a : ℕ) → is_misplaced arcs a ≡ false → capacity < length (identifier_octets (arcs ++ (a ∷ []))) → add_arc capacity arcs a ≡ Err errors.Length
unfolding add_arc
add_arc-long capacity arcs a e l = rw (e, lt-ltb capacity (length (identifier_octets (arcs ++ (a ∷ [])))) l, add_arc) refl

pub add_arc-ok : (capacity : ℕ) (arcs : List ℕ) (a : ℕ) → is_misplaced arcs a ≡ false → length (identifier_octets (arcs ++ (a ∷ []))) ≤ capacity → add_arc capacity arcs a ≡ Ok (arcs ++ (a ∷ []))
unfolding add_arc
add_arc-ok capacity arcs a e l = rw (e, le-ltb capacity (length (identifier_octets (arcs ++ (a ∷ [])))) l, add_arc) refl

-- The encoding of few arcs

one_octets : (a : ℕ) → identifier_octets (a ∷ []) ≡ []
unfolding identifier_octets
one_octets a = refl

pub add_first : (capacity a : ℕ) → a ≤ 2 → add_arc capacity [] a ≡ Ok (a ∷ [])
add_first capacity a l = add_arc-ok capacity [] a (le-ltb 2 a l) (omega (arith, ap length (one_octets a)))

pub misplaced_first : (capacity a : ℕ) → 2 < a → add_arc capacity [] a ≡ Err (errors.ArcInvalid a)
misplaced_first capacity a l = add_arc-misplaced capacity [] a (lt-ltb 2 a l)

-- A second arc above 39 is an error.
pub misplaced_second : (capacity first a : ℕ) → 40 ≤ a → add_arc capacity (first ∷ []) a ≡ Err (errors.ArcInvalid a)
misplaced_second capacity first a l = add_arc-misplaced capacity (first ∷ []) a (lt-ltb 39 a (omega arith))

pub add_second : (bound capacity first a : ℕ) → first ≤ 2 → a < 40 → add_arc capacity (first ∷ []) a ≡ read_identifier bound capacity ((40 * first + a) ∷ [])
unfolding add_arc identifier_octets
add_second bound capacity first a small l =
    let high : (40 * first + a) / 40 ≡ first = omega arith in
    let low : (40 * first + a) % 40 ≡ a = omega arith in
    grind (arith, nat_tests, high, low)

-- A later arc is an error only if the encoding exceeds the capacity.
add_more : (capacity : ℕ) (arcs : List ℕ) (a : ℕ) → 2 ≤ length arcs → add_arc capacity arcs a ≡ child_of capacity arcs a
unfolding add_arc
add_more capacity (x ∷ y ∷ arcs) a many = refl
add_more capacity _ a many = absurd (omega arith)

pub child-was : (capacity : ℕ) (arcs child : List ℕ) (a : ℕ) → child_of capacity arcs a ≡ Ok child → child ≡ arcs ++ (a ∷ [])
child-was capacity arcs child a e = grind (arith, nat_tests)

child_many : (capacity : ℕ) (arcs child : List ℕ) (a : ℕ) → 2 ≤ length arcs → child_of capacity arcs a ≡ Ok child → 2 ≤ length child
child_many capacity arcs child a many e = omega (arith, many, ap length (child-was capacity arcs child a e), length-append arcs (a ∷ []))

-- The states of an encoder

-- The encoder has no identifier yet.
pub none_now : (first : Option ℕ) (identifier : Option (List ℕ)) (now : List ℕ) → first ≡ None → identifier ≡ None → arcs_so_far first identifier ≡ now → now ≡ []
none_now first identifier now f i e = grind arith

pub one_now : (first : Option ℕ) (identifier : Option (List ℕ)) (now : List ℕ) (x : ℕ) → first ≡ Some x → identifier ≡ None → arcs_so_far first identifier ≡ now → now ≡ x ∷ []
one_now first identifier now x f i e = grind arith

pub first_small : (first : Option ℕ) (identifier : Option (List ℕ)) (x : ℕ) → first ≡ Some x → identifier ≡ None → IsSoFar first identifier → x ≤ 2
first_small first identifier x f i s = grind arith

-- The encoder has an identifier.
many_arcs : (first : Option ℕ) (identifier : Option (List ℕ)) (arcs : List ℕ) → identifier ≡ Some arcs → IsSoFar first identifier → (x : ℕ) × (first ≡ Some x) × (2 ≤ length arcs)
many_arcs None (Some b) arcs i s = absurd s
many_arcs (Some x) (Some b) arcs i s = let same : b ≡ arcs = cc in (x, refl, omega (arith, s, ap length same))
many_arcs _ _ arcs i s = cc

-- Pushing an arc either adds it or leaves the arcs as they were.
abbrev pub Pushed : (capacity : ℕ) → List ℕ → List ℕ → ℕ → Result (Unit {0}) Error → Type 0
Pushed capacity arcs new a r = MatchResult r (λ _. child_of capacity arcs a ≡ Ok new) (λ e. (child_of capacity arcs a ≡ Err e) × (new ≡ arcs))

pub many_pushed : (capacity : ℕ) (first : Option ℕ) (identifier : Option (List ℕ)) (arcs new : List ℕ) (a : ℕ) (r : Result (Unit {0}) Error) → identifier ≡ Some arcs → IsSoFar first identifier
    → Pushed capacity arcs new a r → IsSoFar first (Some new)
many_pushed capacity first identifier arcs new a r i s p =
    let many = many_arcs first identifier arcs i s in
    subst (λ f. IsSoFar f (Some new)) (sym many.1) (by r p many.2)
  where
    by : (r : Result (Unit {0}) Error) → Pushed capacity arcs new a r → 2 ≤ length arcs → 2 ≤ length new
    by (Ok u) p many = child_many capacity arcs new a many p
    by (Err e) p many = omega (arith, many, ap length p.1)

pub many_added : (capacity : ℕ) (first : Option ℕ) (identifier : Option (List ℕ)) (arcs new now : List ℕ) (a : ℕ) (r : Result (Unit {0}) Error) → identifier ≡ Some arcs → IsSoFar first identifier
    → arcs_so_far first identifier ≡ now → Pushed capacity arcs new a r → MatchResult r (λ _. add_arc capacity now a ≡ Ok new) (λ e. add_arc capacity now a ≡ Err e)
many_added capacity first identifier arcs new now a r i s e p = by r p
  where
    same : add_arc capacity now a ≡ child_of capacity arcs a
    same = ap (λ t. add_arc capacity t a) (sym e ∙ ap (arcs_so_far first) i) ∙ add_more capacity arcs a (many_arcs first identifier arcs i s).2

    by : (r : Result (Unit {0}) Error) → Pushed capacity arcs new a r → MatchResult r (λ _. add_arc capacity now a ≡ Ok new) (λ e. add_arc capacity now a ≡ Err e)
    by (Ok u) p = same ∙ p
    by (Err x) p = same ∙ p.0

-- Finishing an encoder

pub whole-few : (arcs : List ℕ) → length arcs < 2 → whole_arcs arcs ≡ Err errors.Empty
unfolding whole_arcs
whole-few arcs l = rw (lt-ltb (length arcs) 2 l, whole_arcs) refl

pub whole-many : (arcs : List ℕ) → 2 ≤ length arcs → whole_arcs arcs ≡ Ok arcs
unfolding whole_arcs
whole-many arcs l = rw (le-ltb (length arcs) 2 l, whole_arcs) refl

pub identifier-many : (bound : ℕ) (arcs : List ℕ) → IsIdentifier bound arcs → 2 ≤ length arcs
unfolding IsIdentifier
identifier-many bound (x ∷ y ∷ arcs) id = omega arith
identifier-many bound _ id = absurd id

-- The first arc of an identifier is at most 2.
pub first_arc_small : (bound a : ℕ) (rest : List ℕ) → IsIdentifier bound (a ∷ rest) → a ≤ 2
unfolding IsIdentifier
first_arc_small bound a [] id = absurd id
first_arc_small bound a (b ∷ rest) id = id.0

-- The encoding of an identifier isn't empty.
pub some_octets : (bound : ℕ) (arcs : List ℕ) → IsIdentifier bound arcs → 0 < length (identifier_octets arcs)
unfolding IsIdentifier identifier_octets
some_octets bound (x ∷ y ∷ arcs) id = omega arith
some_octets bound _ id = absurd id

pub finished : (first : Option ℕ) (identifier : Option (List ℕ)) → IsSoFar first identifier → whole_arcs (arcs_so_far first identifier) ≡ ok_or identifier errors.Empty
finished None None s = whole-few [] (omega arith)
finished (Some x) None s = whole-few (x ∷ []) (omega arith)
finished None (Some arcs) s = absurd s
finished (Some x) (Some arcs) s = whole-many arcs s

-- An identifier with one more arc

pub pushed_ok : (bound capacity : ℕ) (w : List ℕ) (a : ℕ) → SpellsIdentifier bound capacity w → length w + length (arc_octets a) ≤ capacity
    → ltb capacity (length (identifier_octets (arcs_of w ++ (a ∷ [])))) ≡ false
pushed_ok bound capacity w a s fits =
    let octets : identifier_octets (arcs_of w ++ (a ∷ [])) ≡ w ++ arc_octets a =
    identifier_octets-push bound (arcs_of w) a s.identifier ∙ ap (λ t. t ++ arc_octets a) (sym s.spelled) in
    le-ltb capacity (length (identifier_octets (arcs_of w ++ (a ∷ [])))) (omega (arith, ap length octets, length-append w (arc_octets a)))

pub pushed_long : (bound capacity : ℕ) (w : List ℕ) (a : ℕ) → SpellsIdentifier bound capacity w → capacity < length w + length (arc_octets a)
    → ltb capacity (length (identifier_octets (arcs_of w ++ (a ∷ [])))) ≡ true
pushed_long bound capacity w a s long =
    let octets : identifier_octets (arcs_of w ++ (a ∷ [])) ≡ w ++ arc_octets a =
    identifier_octets-push bound (arcs_of w) a s.identifier ∙ ap (λ t. t ++ arc_octets a) (sym s.spelled) in
    lt-ltb capacity (length (identifier_octets (arcs_of w ++ (a ∷ [])))) (omega (arith, ap length octets, length-append w (arc_octets a)))

-- Collecting arcs from a list

pub gather-ok : (capacity : ℕ) (arcs more : List ℕ) (a : ℕ) (rest : List ℕ) → add_arc capacity arcs a ≡ Ok more → gather capacity arcs (a ∷ rest) ≡ gather capacity more rest
unfolding gather
gather-ok capacity arcs more a rest e = ap (λ r. and_then r (λ t. gather capacity t rest)) e

pub gather-err : (capacity : ℕ) (arcs : List ℕ) (a : ℕ) (rest : List ℕ) (x : Error) → add_arc capacity arcs a ≡ Err x → gather capacity arcs (a ∷ rest) ≡ Err x
unfolding gather
gather-err capacity arcs a rest x e = ap (λ r. and_then r (λ t. gather capacity t rest)) e

pub gather-end : (capacity : ℕ) (arcs : List ℕ) → gather capacity arcs [] ≡ whole_arcs arcs
unfolding gather
gather-end capacity arcs = refl
