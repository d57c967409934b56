-- Lemmas about collecting arcs: the result is an identifier, or the error of the shortest prefix
-- that has one.
use Rattle.std.proofs.Common.{◌≡◌, ◌≢◌, ℕ, ◌<◌, ◌≤◌, ◌⊎◌, inl, inr, false, List, [], ◌∷◌, ◌++◌, length, Result, Ok, Err, IfOk, IfErr, MatchResult, sym, refl, ap, subst, ◌∙◌, append_assoc, append-nil, length-append, arith}
use Rattle.std.specs.List.{AllByRecursion, flat_map}
use Rattle.std.proofs.lemmas.Bool.{lt-ltb, le-ltb, cases_lt}
use Rattle.std.proofs.lemmas.Bool.Decides.{nat_tests}
use Rattle.std.proofs.lemmas.List.{same_from_push}
use Rattle.std.proofs.lemmas.Grind.{flat_map-append}
use Rattle.const_oid.specs.declared.error.Error.{Error}
use Rattle.const_oid.specs.declared.error.Error.TheVariants as errors
use Rattle.const_oid.specs.IdentifierOctets.{arc_octets, identifier_octets, IsIdentifier}
use Rattle.const_oid.specs.ArcLists.{is_misplaced, add_arc, whole_arcs, gather}
use Rattle.const_oid.specs.ArcFaults.{ArePlaced, IsFaultless, IsNextFault, first_large, second_large, past_capacity, IsArcsFault, at_arc, too_few, EndsAtFault}
use Rattle.const_oid.proofs.EncodingLaws.{add_arc-misplaced, add_arc-long, add_arc-ok, whole-few, whole-many, gather-ok, gather-err, gather-end}

-- Prefixes without an error

octets_front : (front more : List ℕ) → length (identifier_octets front) ≤ length (identifier_octets (front ++ more))
unfolding identifier_octets
octets_front [] more = omega arith
octets_front (x ∷ []) more = omega arith
octets_front (x ∷ y ∷ front) more =
    omega (arith, ap length (flat_map-append arc_octets front more), length-append (flat_map arc_octets front) (flat_map arc_octets more))

placed_front : (front more : List ℕ) → ArePlaced (front ++ more) → ArePlaced front
placed_front [] more p = tt
placed_front (x ∷ []) [] p = p
placed_front (x ∷ []) (y ∷ more) p = p.0
placed_front (x ∷ y ∷ front) more p = p

pub faultless_front : (capacity : ℕ) (front more : List ℕ) → IsFaultless capacity (front ++ more) → IsFaultless capacity front
faultless_front capacity front more f = record { placed = placed_front front more f.placed; fits = omega (arith, octets_front front more, f.fits) }

pub faultless_none : (capacity : ℕ) → IsFaultless capacity []
unfolding identifier_octets
faultless_none capacity = record { placed = tt; fits = omega arith }

pub faultless_one : (capacity a : ℕ) → a ≤ 2 → IsFaultless capacity (a ∷ [])
unfolding identifier_octets
faultless_one capacity a small = record { placed = small; fits = omega arith }

not_misplaced : (front : List ℕ) (a : ℕ) → ArePlaced (front ++ (a ∷ [])) → is_misplaced front a ≡ false
not_misplaced [] a p = le-ltb 2 a p
not_misplaced (x ∷ []) a p = le-ltb 39 a p.1
not_misplaced (x ∷ y ∷ front) a p = refl

pub add_arc-faultless : (capacity : ℕ) (front : List ℕ) (a : ℕ) → IsFaultless capacity (front ++ (a ∷ [])) → add_arc capacity front a ≡ Ok (front ++ (a ∷ []))
add_arc-faultless capacity front a f = add_arc-ok capacity front a (not_misplaced front a f.placed) f.fits

-- Adding one arc

-- The results of adding an arc: it is added, or it has an error.
pub data Next (capacity : ℕ) (front : List ℕ) (a : ℕ) : Type 0 where
  faulty : (e : Error) → IsNextFault capacity front a e → add_arc capacity front a ≡ Err e → Next capacity front a
  fine : IsFaultless capacity (front ++ (a ∷ [])) → add_arc capacity front a ≡ Ok (front ++ (a ∷ [])) → Next capacity front a

sized : (capacity : ℕ) (front : List ℕ) (a : ℕ) → ArePlaced (front ++ (a ∷ [])) → Next capacity front a
sized capacity front a p = by (cases_lt capacity (length (identifier_octets (front ++ (a ∷ [])))))
  where
    by : (capacity < length (identifier_octets (front ++ (a ∷ [])))) ⊎ (length (identifier_octets (front ++ (a ∷ []))) ≤ capacity) → Next capacity front a
    by (inl long) = faulty errors.Length (past_capacity p long) (add_arc-long capacity front a (not_misplaced front a p) long)
    by (inr small) = fine (record { placed = p; fits = small }) (add_arc-ok capacity front a (not_misplaced front a p) small)

pub next : (capacity : ℕ) (front : List ℕ) (a : ℕ) → ArePlaced front → Next capacity front a
next capacity [] a p = by (cases_lt 2 a)
  where
    by : (2 < a) ⊎ (a ≤ 2) → Next capacity [] a
    by (inl large) = faulty (errors.ArcInvalid a) (first_large refl large) (add_arc-misplaced capacity [] a (lt-ltb 2 a large))
    by (inr small) = sized capacity [] a small
next capacity (x ∷ []) a p = by (cases_lt 39 a)
  where
    by : (39 < a) ⊎ (a ≤ 39) → Next capacity (x ∷ []) a
    by (inl large) = faulty (errors.ArcInvalid a) (second_large x refl large) (add_arc-misplaced capacity (x ∷ []) a (lt-ltb 39 a large))
    by (inr small) = sized capacity (x ∷ []) a (p, small)
next capacity (x ∷ y ∷ front) a p = sized capacity (x ∷ y ∷ front) a p

pub next_answered : (capacity : ℕ) (front : List ℕ) (a : ℕ) (e : Error) → IsNextFault capacity front a e → add_arc capacity front a ≡ Err e
next_answered capacity front a e (first_large none large) = add_arc-misplaced capacity front a (ap (λ f. is_misplaced f a) none ∙ lt-ltb 2 a large)
next_answered capacity front a e (second_large first one large) = add_arc-misplaced capacity front a (ap (λ f. is_misplaced f a) one ∙ lt-ltb 39 a large)
next_answered capacity front a e (past_capacity placed long) = add_arc-long capacity front a (not_misplaced front a placed) long

pub next-not_overflow : (capacity : ℕ) (front : List ℕ) (a : ℕ) (e : Error) → IsNextFault capacity front a e → e ≢ errors.Overflow
next-not_overflow capacity front a e (first_large none large) h = cc
next-not_overflow capacity front a e (second_large first one large) h = cc
next-not_overflow capacity front a e (past_capacity placed long) h = cc

-- Adding an arc never returns `Empty`.
pub add_arc-not_empty : (capacity : ℕ) (front : List ℕ) (a : ℕ) → add_arc capacity front a ≢ Err errors.Empty
unfolding add_arc
add_arc-not_empty capacity front a h = grind (arith, nat_tests)

-- The result of collecting

abbrev pub Judged : (capacity : ℕ) → List ℕ → Result (List ℕ) Error → Type 0
Judged capacity arcs r = MatchResult r (λ oid. (oid ≡ arcs) × IsFaultless capacity arcs × (2 ≤ length arcs)) (λ e. IsArcsFault capacity arcs e)

whole_judged : (capacity : ℕ) (arcs : List ℕ) → IsFaultless capacity arcs → Judged capacity arcs (whole_arcs arcs)
whole_judged capacity arcs f = by (cases_lt (length arcs) 2)
  where
    by : (length arcs < 2) ⊎ (2 ≤ length arcs) → Judged capacity arcs (whole_arcs arcs)
    by (inl few) = subst (Judged capacity arcs) (sym (whole-few arcs few)) (too_few f few)
    by (inr many) = subst (Judged capacity arcs) (sym (whole-many arcs many)) (refl, f, many)

gather_judged : (capacity : ℕ) (front arcs : List ℕ) → IsFaultless capacity front → Judged capacity (front ++ arcs) (gather capacity front arcs)
gather_judged capacity front [] f =
    subst (λ t. Judged capacity t (gather capacity front [])) (sym (append-nil front))
    (subst (Judged capacity front) (sym (gather-end capacity front)) (whole_judged capacity front f))
gather_judged capacity front (a ∷ arcs) f = by (next capacity front a f.placed) (λ more. gather_judged capacity more arcs)
  where
    by : Next capacity front a → ((more : List ℕ) → IsFaultless capacity more → Judged capacity (more ++ arcs) (gather capacity more arcs)) → Judged capacity (front ++ (a ∷ arcs)) (gather capacity front (a ∷ arcs))
    by (faulty e fault err) ih = subst (Judged capacity (front ++ (a ∷ arcs))) (sym (gather-err capacity front a arcs e err)) (at_arc front a arcs e refl f fault)
    by (fine g ok) ih =
        subst (Judged capacity (front ++ (a ∷ arcs))) (sym (gather-ok capacity front (front ++ (a ∷ [])) a arcs ok))
        (subst (λ t. Judged capacity t (gather capacity (front ++ (a ∷ [])) arcs)) (append_assoc front (a ∷ []) arcs) (ih (front ++ (a ∷ [])) g))

judged : (capacity : ℕ) (arcs : List ℕ) (r : Result (List ℕ) Error) → r ≡ gather capacity [] arcs → Judged capacity arcs r
judged capacity arcs r e = subst (Judged capacity arcs) (sym e) (gather_judged capacity [] arcs (faultless_none capacity))

-- If collecting arcs returns an error, the arcs have that error.
pub arc_fault_found : (capacity : ℕ) (arcs : List ℕ) (e : Error) → gather capacity [] arcs ≡ Err e → IsArcsFault capacity arcs e
arc_fault_found capacity arcs e err = judged capacity arcs (Err e) (sym err)

placed_identifier : (bound : ℕ) (arcs : List ℕ) → ArePlaced arcs → 2 ≤ length arcs → AllByRecursion (λ n. n < bound) arcs → IsIdentifier bound arcs
unfolding IsIdentifier
placed_identifier bound [] p many all = omega arith
placed_identifier bound (x ∷ []) p many all = omega arith
placed_identifier bound (x ∷ y ∷ arcs) p many all = (p.0, omega (arith, p.1), all.1.1)

pub faultless_identifier : (bound capacity : ℕ) (arcs : List ℕ) → IsFaultless capacity arcs → 2 ≤ length arcs → AllByRecursion (λ n. n < bound) arcs → IsIdentifier bound arcs
faultless_identifier bound capacity arcs f many all = placed_identifier bound arcs f.placed many all

-- If collecting arcs succeeds, they are an identifier.
pub gathered_are_identifier : (bound capacity : ℕ) (arcs oid : List ℕ) → AllByRecursion (λ n. n < bound) arcs → gather capacity [] arcs ≡ Ok oid
    → (oid ≡ arcs) × IsIdentifier bound arcs × (length (identifier_octets arcs) ≤ capacity)
gathered_are_identifier bound capacity arcs oid all ok =
    let j : Judged capacity arcs (Ok oid) = judged capacity arcs (Ok oid) (sym ok) in
    (j.0, placed_identifier bound arcs j.1.placed j.2 all, j.1.fits)

-- Collecting after a prefix without an error

gather-front : (capacity : ℕ) (front more rest : List ℕ) → IsFaultless capacity (front ++ more) → gather capacity front (more ++ rest) ≡ gather capacity (front ++ more) rest
gather-front capacity front [] rest f = ap (λ t. gather capacity t rest) (sym (append-nil front))
gather-front capacity front (a ∷ more) rest f =
    let whole : (front ++ (a ∷ [])) ++ more ≡ front ++ (a ∷ more) = append_assoc front (a ∷ []) more in
    let g = subst (IsFaultless capacity) (sym whole) f in
    gather-ok capacity front (front ++ (a ∷ [])) a (more ++ rest) (add_arc-faultless capacity front a (faultless_front capacity (front ++ (a ∷ [])) more g))
    ∙ gather-front capacity (front ++ (a ∷ [])) more rest g
    ∙ ap (λ t. gather capacity t rest) whole

-- The arcs of an identifier are in range.
identifier_placed : (bound : ℕ) (arcs : List ℕ) → IsIdentifier bound arcs → ArePlaced arcs × (2 ≤ length arcs)
unfolding IsIdentifier
identifier_placed bound (x ∷ y ∷ arcs) id = ((id.0, omega (arith, id.1)), omega arith)
identifier_placed bound _ id = absurd id

pub identifier_gathered : (bound capacity : ℕ) (arcs : List ℕ) → IsIdentifier bound arcs → length (identifier_octets arcs) ≤ capacity → gather capacity [] arcs ≡ Ok arcs
identifier_gathered bound capacity arcs id fits =
    let p = identifier_placed bound arcs id in
    ap (gather capacity []) (sym (append-nil arcs)) ∙ gather-front capacity [] arcs [] (record { placed = p.0; fits = fits }) ∙ gather-end capacity arcs ∙ whole-many arcs p.1

-- If arcs have an error, collecting them returns that error.
pub arc_fault_answered : (capacity : ℕ) (arcs : List ℕ) (e : Error) → IsArcsFault capacity arcs e → gather capacity [] arcs ≡ Err e
arc_fault_answered capacity arcs e (at_arc front a rest x whole f fault) =
    ap (gather capacity []) whole ∙ gather-front capacity [] front (a ∷ rest) f ∙ gather-err capacity front a rest x (next_answered capacity front a x fault)
arc_fault_answered capacity arcs e (too_few f few) =
    ap (gather capacity []) (sym (append-nil arcs)) ∙ gather-front capacity [] arcs [] f ∙ gather-end capacity arcs ∙ whole-few arcs few

pub arc_fault-not_overflow : (capacity : ℕ) (arcs : List ℕ) (e : Error) → IsArcsFault capacity arcs e → e ≢ errors.Overflow
arc_fault-not_overflow capacity arcs e (at_arc front a rest x whole f fault) h = next-not_overflow capacity front a x fault h
arc_fault-not_overflow capacity arcs e (too_few f few) h = cc

-- Consequences for a result

pub answer_ok : (bound capacity : ℕ) (Q : List ℕ → Type 0) (arcs : List ℕ) (r : Result (List ℕ) Error) → AllByRecursion (λ n. n < bound) arcs → r ≡ gather capacity [] arcs
    → (IsIdentifier bound arcs → length (identifier_octets arcs) ≤ capacity → Q arcs) → IfOk r Q
answer_ok bound capacity Q arcs (Ok oid) all e q =
    let g = gathered_are_identifier bound capacity arcs oid all (sym e) in
    subst Q (sym g.0) (q g.1 g.2)
answer_ok bound capacity Q arcs (Err x) all e q = tt

pub answer_fault : (capacity : ℕ) (Q : Error → Type 0) (arcs : List ℕ) (r : Result (List ℕ) Error) → r ≡ gather capacity [] arcs → ((e : Error) → IsArcsFault capacity arcs e → Q e) → IfErr r Q
answer_fault capacity Q arcs (Ok oid) e q = tt
answer_fault capacity Q arcs (Err x) e q = q x (arc_fault_found capacity arcs x (sym e))

-- Collecting from an iterator

-- Collecting a prefix without an error gives the prefix.
pub gather-faultless : (capacity : ℕ) (front more : List ℕ) → IsFaultless capacity front → gather capacity [] (front ++ more) ≡ gather capacity front more
gather-faultless capacity front more f = gather-front capacity [] front more f

-- If an arc is added without an error, the longer prefix has none.
pub added-faultless : (capacity : ℕ) (front : List ℕ) (a : ℕ) (more : List ℕ) → IsFaultless capacity front → add_arc capacity front a ≡ Ok more
    → (more ≡ front ++ (a ∷ [])) × IsFaultless capacity (front ++ (a ∷ []))
added-faultless capacity front a more f ok = by (next capacity front a f.placed)
  where
    by : Next capacity front a → (more ≡ front ++ (a ∷ [])) × IsFaultless capacity (front ++ (a ∷ []))
    by (faulty e fault err) = let h : Ok more ≡ Err e = sym ok ∙ err in cc
    by (fine g also) = let h : Ok more ≡ Ok (front ++ (a ∷ [])) = sym ok ∙ also in (cc, g)

-- After a prefix without an error, an iterator that stops at the first error has taken at most one
-- more arc.
pub ends_at_next : (capacity : ℕ) (front : List ℕ) (a : ℕ) → IsFaultless capacity front → EndsAtFault capacity (front ++ (a ∷ []))
ends_at_next capacity front a f before last e = subst (IsFaultless capacity) (same_from_push front before a last e).0 f

pub ends_at_none : (capacity : ℕ) (arcs : List ℕ) → IsFaultless capacity arcs → EndsAtFault capacity arcs
ends_at_none capacity arcs f before last e = faultless_front capacity before (last ∷ []) (subst (IsFaultless capacity) e f)
